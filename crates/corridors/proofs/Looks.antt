-- What lies behind an edge, by the cases of the code, and that what is seen is in range. Assumes nothing.
use mathlib.Core.Bool.{true, false}
use mathlib.Core.List.{List}
use mathlib.Core.Path.{◌≡◌, subst}
use Prim.Native.Nat.{ℕ, ◌+◌, ◌-◌, ◌*◌, ◌/◌, ◌%◌, ◌≤◌, ◌<◌}
use native.Mathlib.Decide.{ℕ_discrete, dec_lt}
use native.Mathlib.Omega.{arith}
use borrow.Author.Tests.{eq-eqb, ne_eqb, lt-ltb, le-ltb}
use lib.IntN.{ℤ, neg_ℤ}
use Rattle.std.specs.Prelude.{Result, Ok, Err, ⊤}
use Rattle.algebra.proofs.Sum.{by_bool}
use Rattle.algebra.specs.Tests.{posb}
use Rattle.plane.specs.Determinants.{orient}
use Rattle.plane.specs.Halfedges.{nxt}
use Rattle.plane.specs.Points.{Pt}
use Rattle.nets.specs.Layout.{cell}
use Rattle.nets.specs.Nets.{prv}
use Rattle.nets.proofs.Slot.{nxt_in}
use Rattle.chains.specs.Areas.{org, adj, con, Room}
use Rattle.chains.specs.Scans.{left_of, right_of}
use Rattle.chains.specs.Walks.{met, look_at}
use Rattle.chains.specs.declared.Reason.{Reason}
use Rattle.chains.specs.declared.Reason.TheVariants.{NoNeighbour, Marked, Twice, OnLine}
use Rattle.chains.specs.declared.Beyond.{Beyond}
use Rattle.chains.specs.declared.Beyond.TheVariants.{Left, Right, Last}

-- ---- half-edges

pub prv_in : (h t : ℕ) → h < 3 * t → prv h < 3 * t
prv_in h t l = nxt_in (nxt h) t (nxt_in h t l)

pub cell_start : (h : ℕ) → cell 0 h ≡ 16 * (h / 3) + h % 3
unfolding cell
cell_start h = omega arith

-- ---- the far corner

module _ (P : ℕ → Pt ℤ) (a b y c : ℕ) where
  pub met_last : c ≡ b → Ok (Last y) ≡ met P a b y c
  unfolding met
  met_last e = simp (eq-eqb c b e)

  pub met_left : ¬ (c ≡ b) → posb (orient (P a) (P b) (P c)) ≡ true → Ok (Left y c) ≡ met P a b y c
  unfolding met left_of
  met_left n l = simp (ne_eqb c b n, l)

  pub met_right : ¬ (c ≡ b) → posb (orient (P a) (P b) (P c)) ≡ false → posb (neg_ℤ (orient (P a) (P b) (P c))) ≡ true → Ok (Right y c) ≡ met P a b y c
  unfolding met left_of right_of
  met_right n l r = simp (ne_eqb c b n, l, r)

  pub met_line : ¬ (c ≡ b) → posb (orient (P a) (P b) (P c)) ≡ false → posb (neg_ℤ (orient (P a) (P b) (P c))) ≡ false → Err OnLine ≡ met P a b y c
  unfolding met left_of right_of
  met_line n l r = simp (ne_eqb c b n, l, r)

-- ---- behind an edge

module _ (P : ℕ → Pt ℤ) (t a b : ℕ) (w : List ℕ) (x : ℕ) where
  pub look_none : adj w x ≡ 0 → Err NoNeighbour ≡ look_at P t a b w x
  unfolding look_at
  look_none e = simp (eq-eqb (adj w x) 0 e)

  pub look_marked : ¬ (adj w x ≡ 0) → ¬ (con w x ≡ 0) → Err Marked ≡ look_at P t a b w x
  unfolding look_at
  look_marked n m = simp (ne_eqb (adj w x) 0 n, ne_eqb (con w x) 0 m)

  pub look_twice : ¬ (adj w x ≡ 0) → con w x ≡ 0 → 3 * t < adj w x → Err Twice ≡ look_at P t a b w x
  unfolding look_at
  look_twice n m l = simp (ne_eqb (adj w x) 0 n, eq-eqb (con w x) 0 m, lt-ltb (3 * t) (adj w x) l)

  pub look_met : ¬ (adj w x ≡ 0) → con w x ≡ 0 → adj w x ≤ 3 * t → met P a b (adj w x - 1) (org w (prv (adj w x - 1))) ≡ look_at P t a b w x
  unfolding look_at
  look_met n m l = simp (ne_eqb (adj w x) 0 n, eq-eqb (con w x) 0 m, le-ltb (3 * t) (adj w x) l)

-- ---- what is seen is one of the t triangles, and its corner one of the n points

pub Low : ℕ → ℕ → Result Beyond Reason → Type 0
Low n t (Ok (Left y c)) = (y < 3 * t) × (c < n)
Low n t (Ok (Right y c)) = (y < 3 * t) × (c < n)
Low n t (Ok (Last y)) = y < 3 * t
Low n t (Err e) = ⊤

module _ (n t : ℕ) (P : ℕ → Pt ℤ) (a b : ℕ) where
  met_low : (y c : ℕ) → y < 3 * t → c < n → Low n t (met P a b y c)
  unfolding Low
  met_low y c l k =
      elim (ℕ_discrete c b) [
        | yes e ↦ subst (Low n t) (met_last P a b y c e) l
        | no e ↦
            by_bool (posb (orient (P a) (P b) (P c))) (λ f. subst (Low n t) (met_left P a b y c e f) (l, k))
            (λ f. by_bool (posb (neg_ℤ (orient (P a) (P b) (P c)))) (λ g. subst (Low n t) (met_right P a b y c e f g) (l, k)) (λ g. subst (Low n t) (met_line P a b y c e f g) tt))
      ]

  module _ (w : List ℕ) (x : ℕ) (room : Room n t w) where
    look_low : Low n t (look_at P t a b w x)
    unfolding Low
    look_low = go (ℕ_discrete (adj w x) 0) (ℕ_discrete (con w x) 0) (dec_lt (3 * t) (adj w x))
      where
        go : Dec (adj w x ≡ 0) → Dec (con w x ≡ 0) → Dec (3 * t < adj w x) → Low n t (look_at P t a b w x)
        go (yes e) f g = subst (Low n t) (look_none P t a b w x e) tt
        go (no e) (no f) g = subst (Low n t) (look_marked P t a b w x e f) tt
        go (no e) (yes f) (yes g) = subst (Low n t) (look_twice P t a b w x e f g) tt
        go (no e) (yes f) (no g) =
            let q : adj w x - 1 < 3 * t = omega arith in
            let l : adj w x ≤ 3 * t = omega arith in
            subst (Low n t) (look_met P t a b w x e f l) (met_low (adj w x - 1) (org w (prv (adj w x - 1))) q (room.low (prv (adj w x - 1)) (prv_in (adj w x - 1) t q)))

    pub left_low : (y c : ℕ) → look_at P t a b w x ≡ Ok (Left y c) → (y < 3 * t) × (c < n)
    unfolding Low
    left_low y c e = subst (Low n t) e look_low

    pub right_low : (y c : ℕ) → look_at P t a b w x ≡ Ok (Right y c) → (y < 3 * t) × (c < n)
    unfolding Low
    right_low y c e = subst (Low n t) e look_low

    pub last_low : (y : ℕ) → look_at P t a b w x ≡ Ok (Last y) → y < 3 * t
    unfolding Low
    last_low y e = subst (Low n t) e look_low
