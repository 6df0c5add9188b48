-- Triangles cut out of a net and others put in: the half-edges that stay move to new numbers, and their partners, which lie elsewhere,
-- are told so. Serves splits, flips and fillings. Assumes nothing.
use mathlib.Core.Bool.{Bool, true, false, cond}
use mathlib.Core.List.{List, [], ◌∷◌}
use mathlib.Core.Logic.{◌⊎◌, inl, inr}
use mathlib.Core.Path.{◌≡◌, refl, sym, ap, ◌∙◌, subst}
use Prim.Native.Nat.{ℕ, zero, suc, ◌*◌, ◌/◌, ◌<◌, ◌≤◌}
use native.Mathlib.Omega.{arith}
use lib.Dec.{T, eqb, eqb→eq}
use Rattle.algebra.proofs.Sum.{by_bool, eqb_no, eqb_yes}
use Rattle.plane.specs.Halfedges.{nxt}
use Rattle.nets.specs.Moves.{Move, links, after}
use Rattle.nets.specs.Nets.{Net, dst, Linked}
use Rattle.nets.proofs.Net.{ren+, Fits, kept, fresh, along, Same, carry}
use Rattle.nets.proofs.Slot.{nxt_slot}

-- touched slots: t and those from N on; t, n and those from N on
abbrev pub OneMore : ℕ → ℕ → ℕ → Type 0
OneMore t N s = (s ≡ t) ⊎ (N ≤ s)

abbrev pub TwoMore : ℕ → ℕ → ℕ → ℕ → Type 0
TwoMore t n N s = (s ≡ t) ⊎ ((s ≡ n) ⊎ (N ≤ s))

unfoldable pub ren : List Move → ℕ → ℕ
ren [] g = g
ren (v ∷ L) g = cond (eqb v.old g) v.new (ren L g)

abbrev pub All : (Move → Type 0) → List Move → Type 0
All P [] = Unit {0}
All P (v ∷ L) = P v × All P L

pub data Has : List Move → Move → Type 0 where
  here : {L : List Move} {v : Move} → Has (v ∷ L) v
  there : {L : List Move} {v w : Move} → Has L v → Has (w ∷ L) v

pub all_at : (P : Move → Type 0) (L : List Move) (v : Move) → All P L → Has L v → P v
all_at P L v a (here) = a.0
all_at P L v a (there {L = L'} h) = all_at P L' v a.1 h

pub record Moved (m r : Net) (D : ℕ → Type 0) (v : Move) : Type 0 where
  pub old_in : v.old < 3 * m.tris
  pub new_in : v.new < 3 * r.tris
  pub old_d : D (v.old / 3)
  pub new_d : D (v.new / 3)
  pub adj_is : r.adj v.new ≡ m.adj v.old
  pub org_is : r.org v.new ≡ m.org v.old
  pub dst_is : dst r v.new ≡ dst m v.old
  pub con_is : r.con v.new ≡ m.con v.old
  pub out : (o : ℕ) → m.adj v.old ≡ suc o → ¬ D (o / 3)

-- a new half-edge in a touched triangle
pub data New (S : ℕ → ℕ → Type 0) (r : Net) (D : ℕ → Type 0) (L : List Move) (h' : ℕ) : Type 0 where
  moved : (v : Move) → Has L v → v.new ≡ h' → New S r D L h'
  paired : (g : ℕ) → g < 3 * r.tris → D (g / 3) → r.adj h' ≡ suc g → r.adj g ≡ suc h' → r.org g ≡ dst r h' → r.con g ≡ r.con h' → New S r D L h'
  bare : r.adj h' ≡ 0 → S (r.org h') (dst r h') → New S r D L h'

-- an old half-edge in a touched triangle: it moves, or it and its partner go
pub data Old (m : Net) (D : ℕ → Type 0) (L : List Move) (h : ℕ) : Type 0 where
  moves : (v : Move) → Has L v → v.old ≡ h → Old m D L h
  gone : ((g : ℕ) → m.adj h ≡ suc g → D (g / 3)) → Old m D L h

-- D: the touched slots; r: the net with the new triangles put in, before the partners elsewhere are told
pub record Surgery (S : ℕ → ℕ → Type 0) (m r : Net) (D : ℕ → Type 0) (L : List Move) : Type 0 where
  pub dec : (t : ℕ) → Dec (D t)
  pub off_in : (h : ℕ) → ¬ D (h / 3) → h < 3 * r.tris → h < 3 * m.tris
  pub grow : m.tris ≤ r.tris
  pub off_org : (h : ℕ) → ¬ D (h / 3) → r.org h ≡ m.org h
  pub off_adj : (h : ℕ) → ¬ D (h / 3) → r.adj h ≡ m.adj h
  pub off_con : (h : ℕ) → ¬ D (h / 3) → r.con h ≡ m.con h
  pub all_moved : All (Moved m r D) L
  pub ren_at : All (λ v. ren L v.old ≡ v.new) L
  pub old_all : (h : ℕ) → h < 3 * m.tris → D (h / 3) → Old m D L h
  pub new_all : (h : ℕ) → h < 3 * r.tris → D (h / 3) → New S r D L h

suc_inj : (a b : ℕ) → suc a ≡ suc b → a ≡ b
suc_inj a b e = omega arith

ren_off : (m r : Net) (D : ℕ → Type 0) (L : List Move) → All (Moved m r D) L → (o : ℕ) → ¬ D (o / 3) → ren L o ≡ o
unfolding ren
ren_off m r D [] a o n = refl
ren_off m r D (v ∷ L) a o n =
    ap (λ (b : Bool). cond b v.new (ren L o)) (eqb_no v.old o (λ e. n (subst (λ (x : ℕ). D (x / 3)) e a.0.old_d))) ∙ ren_off m r D L a.1 o n

links_on : (m r : Net) (D : ℕ → Type 0) (L : List Move) (f : ℕ → ℕ) → All (Moved m r D) L → (q : ℕ) → D (q / 3) → links m.adj L f q ≡ f q
unfolding links
links_on m r D [] f a q d = refl
links_on m r D (v ∷ L) f a q d =
    ap (λ (b : Bool). cond b (suc v.new) (links m.adj L f q)) (eqb_no (m.adj v.old) (suc q) (λ e. a.0.out q e d)) ∙ links_on m r D L f a.1 q d

module _ {S : ℕ → ℕ → Type 0} {m : Net} (l : Linked S m) where
  -- what a partner elsewhere reads
  links_off : (r : Net) (D : ℕ → Type 0) (L : List Move) (f : ℕ → ℕ) → All (Moved m r D) L → (q : ℕ) → q < 3 * m.tris → f q ≡ m.adj q → links m.adj L f q ≡ ren+ (ren L) (m.adj q)
  unfolding links ren
  links_off r D [] f a q b e = e ∙ same (m.adj q)
    where
      same : (x : ℕ) → x ≡ ren+ (λ (g : ℕ). g) x
      same zero = refl
      same (suc x) = refl
  links_off r D (v ∷ L) f a q b e = by_bool (eqb (m.adj v.old) (suc q)) yes_case (no_case (links_off r D L f a.1 q b e))
    where
      yes_case : eqb (m.adj v.old) (suc q) ≡ true → cond (eqb (m.adj v.old) (suc q)) (suc v.new)
          (links m.adj L f q) ≡ ren+ (λ (g : ℕ). cond (eqb v.old g) v.new (ren L g)) (m.adj q)
      yes_case t =
          let k : m.adj q ≡ suc v.old = l.back v.old q a.0.old_in (eqb→eq (m.adj v.old) (suc q) (subst T (sym t) tt)) in
          rw (t, k, eqb_yes v.old v.old refl)

      skip : (x : ℕ) → ¬ (x ≡ suc v.old) → ren+ (ren L) x ≡ ren+ (λ (g : ℕ). cond (eqb v.old g) v.new (ren L g)) x
      skip zero n = refl
      skip (suc x) n = ap (λ (b : Bool). suc (cond b v.new (ren L x))) (sym (eqb_no v.old x (λ e. n (ap suc (sym e)))))

      no_case : links m.adj L f q ≡ ren+ (ren L) (m.adj q) → eqb (m.adj v.old) (suc q) ≡ false →
          cond (eqb (m.adj v.old) (suc q)) (suc v.new) (links m.adj L f q) ≡ ren+ (λ (g : ℕ). cond (eqb v.old g) v.new (ren L g)) (m.adj q)
      no_case ih t =
          ap (λ (b : Bool). cond b (suc v.new) (links m.adj L f q)) t ∙ ih ∙
          skip (m.adj q) (λ k. subst T (sym (eqb_yes (m.adj v.old) (suc q) (l.back q v.old b k)) ∙ t) tt)

  module _ {r : Net} {D : ℕ → Type 0} {L : List Move} (s : Surgery S m r D L) where
    Kept : ℕ → Type 0
    Kept h = (¬ D (h / 3)) ⊎ ((v : Move) × Has L v × (v.old ≡ h))

    ren+_off : (x : ℕ) → ((o : ℕ) → x ≡ suc o → ¬ D (o / 3)) → ren+ (ren L) x ≡ x
    ren+_off zero n = refl
    ren+_off (suc o) n = ap suc (ren_off m r D L s.all_moved o (n o refl))

    -- a half-edge elsewhere
    off : (h : ℕ) → h < 3 * m.tris → ¬ D (h / 3) → Same m (after m r L) (ren L) h
    unfolding after
    off h b n =
        let e : ren L h ≡ h = ren_off m r D L s.all_moved h n in
        let g = s.grow in
        record {
          into = rw e (let i : h < 3 * r.tris = omega arith in i);
          adj_is = ap (links m.adj L r.adj) e ∙ links_off r D L r.adj s.all_moved h b (s.off_adj h n);
          org_is = ap r.org e ∙ s.off_org h n;
          dst_is = ap (λ (x : ℕ). r.org (nxt x)) e ∙ s.off_org (nxt h) (rw nxt_slot n);
          con_is = ap r.con e ∙ s.off_con h n;
        }

    -- a half-edge that moves
    mov : (v : Move) → Has L v → Same m (after m r L) (ren L) v.old
    unfolding after
    mov v i =
        let e : ren L v.old ≡ v.new = all_at (λ v. ren L v.old ≡ v.new) L v s.ren_at i in
        let w = all_at (Moved m r D) L v s.all_moved i in
        record {
          into = rw e w.new_in;
          adj_is = ap (links m.adj L r.adj) e ∙ links_on m r D L r.adj s.all_moved v.new w.new_d ∙ w.adj_is ∙ sym (ren+_off (m.adj v.old) w.out);
          org_is = ap r.org e ∙ w.org_is;
          dst_is = ap (λ (x : ℕ). r.org (nxt x)) e ∙ w.dst_is;
          con_is = ap r.con e ∙ w.con_is;
        }

    same : (h : ℕ) → h < 3 * m.tris → Kept h → Same m (after m r L) (ren L) h
    unfolding Kept
    same h b (inl n) = off h b n
    same h b (inr p) = subst (Same m (after m r L) (ren L)) p.2 (mov p.0 p.1)

    keeps : (h g : ℕ) → h < 3 * m.tris → ¬ D (h / 3) → m.adj h ≡ suc g → Dec (D (g / 3)) → Kept g
    unfolding Kept
    keeps h g b n e (no k) = inl k
    keeps h g b n e (yes k) = go (s.old_all g (l.low h g b e) k)
      where
        go : Old m D L g → (¬ D (g / 3)) ⊎ ((v : Move) × Has L v × (v.old ≡ g))
        go (moves v i q) = inr (v, i, q)
        go (gone f) = absurd (n (f h (l.back h g b e)))

    closed : (h g : ℕ) → h < 3 * m.tris → Kept h → m.adj h ≡ suc g → Kept g
    unfolding Kept
    closed h g b (inl n) e = keeps h g b n e (s.dec (g / 3))
    closed h g b (inr p) e = inl ((all_at (Moved m r D) L p.0 s.all_moved p.1).out g (ap m.adj p.2 ∙ e))

    fits : (h' : ℕ) → h' < 3 * r.tris → Dec (D (h' / 3)) → Fits S m (after m r L) Kept (ren L) h'
    unfolding Kept after
    fits h' b (no n) = kept h' (s.off_in h' n b) (inl n) (ren_off m r D L s.all_moved h' n)
    fits h' b (yes d) = go (s.new_all h' b d)
      where
        go : New S r D L h' → Fits S m (after m r L) Kept (ren L) h'
        go (moved v i q) = kept v.old (all_at (Moved m r D) L v s.all_moved i).old_in (inr (v, i, refl)) (all_at (λ v. ren L v.old ≡ v.new) L v s.ren_at i ∙ q)
        go (paired g c k a a' o y) = fresh g c (links_on m r D L r.adj s.all_moved h' d ∙ a) (links_on m r D L r.adj s.all_moved g k ∙ a') o y
        go (bare a o) = along (links_on m r D L r.adj s.all_moved h' d ∙ a) o

    pub sewn : Linked S (after m r L)
    unfolding after
    sewn = carry l (record { closed = closed; same = same; fits = λ h' b. fits h' b (s.dec (h' / 3)) })

    -- a half-edge and its partner, both elsewhere, were partners
    pub sewn_back : (x y : ℕ) → x < 3 * m.tris → ¬ D (x / 3) → ¬ D (y / 3) → (after m r L).adj x ≡ suc y → m.adj x ≡ suc y
    unfolding after Kept
    sewn_back x y b n k e = go (m.adj x) refl
      where
        q : links m.adj L r.adj x ≡ ren+ (ren L) (m.adj x)
        q = links_off r D L r.adj s.all_moved x b (s.off_adj x n)

        no_suc : {X : Type 0} (a : ℕ) → 0 ≡ suc a → X
        no_suc a i = absurd (let z : ◌≡◌ {A = ℕ} 0 (suc a) = i in let f : ⊥ = omega arith in f)

        part : (g : ℕ) → m.adj x ≡ suc g → ren L g ≡ y → Kept g → m.adj x ≡ suc y
        part g i j (inl n') = i ∙ ap suc (sym (ren_off m r D L s.all_moved g n') ∙ j)
        part g i j (inr p) =
            absurd (k (subst (λ (z : ℕ). D (z / 3)) (sym (all_at (λ v. ren L v.old ≡ v.new) L p.0 s.ren_at p.1) ∙ ap (ren L) p.2 ∙ j)
            (all_at (Moved m r D) L p.0 s.all_moved p.1).new_d))

        go : (a : ℕ) → m.adj x ≡ a → m.adj x ≡ suc y
        go zero i = no_suc y (sym (q ∙ ap (ren+ (ren L)) i) ∙ e)
        go (suc g) i = part g i (suc_inj (ren L g) y (sym (q ∙ ap (ren+ (ren L)) i) ∙ e)) (keeps x g b n i (s.dec (g / 3)))

    -- an edge elsewhere, or one that moves, is still there
    pub stays_off : (x : ℕ) → x < 3 * m.tris → ¬ D (x / 3) → Same m (after m r L) (ren L) x
    stays_off = off

    pub stays_moved : (v : Move) → Has L v → Same m (after m r L) (ren L) v.old
    stays_moved = mov
