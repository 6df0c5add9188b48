-- An edge of a net is marked on both sides: the tiling and its corners stay, so do the marked edges, no other edge becomes marked, and step 3
-- would flip nothing that it would not flip before. Assumes nothing.
use mathlib.Core.List.{List}
use mathlib.Core.Logic.{◌⊎◌, inl, inr}
use mathlib.Core.Path.{◌≡◌, refl, sym, ap, ◌∙◌}
use Prim.Native.Nat.{ℕ, zero, suc, ◌*◌, ◌<◌}
use native.Mathlib.Decide.{ℕ_discrete}
use native.Mathlib.Omega.{arith}
use lib.IntN.{ℤ}
use Rattle.plane.specs.Base.{Side}
use Rattle.plane.specs.Points.{Pt}
use Rattle.nets.specs.Flipping.{Wants, Watched}
use Rattle.nets.specs.Nets.{Net, dst, Linked}
use Rattle.nets.specs.Tilings.{Tiling, Present, Marked}
use Rattle.nets.proofs.Net.{to}
use Rattle.cavities.specs.Leaves.{put}
use Rattle.cavities.proofs.Leaves.{put_same, put_other}
use Rattle.sheets.specs.Keeps.{EdgeOf}
use Rattle.stages.specs.Marking.{mark_both, mark_net}

no_suc : {X : Type 0} (x : ℕ) → 0 ≡ suc x → X
no_suc x i = absurd (let z : ◌≡◌ {A = ℕ} 0 (suc x) = i in let f : ⊥ = omega arith in f)

suc_inj : (a b : ℕ) → suc a ≡ suc b → a ≡ b
suc_inj a b e = omega arith

-- a mark of 1 is none of 0
one_not : (x : ℕ) → x ≡ 1 → ¬ (x ≡ 0)
one_not x e f = omega arith

-- ---- which marks become 1

-- x is h or its partner, whose number and 1 is a
abbrev pub Touched : ℕ → ℕ → ℕ → Type 0
Touched h a x = (x ≡ h) ⊎ (a ≡ suc x)

touched : (h a x : ℕ) → Dec (Touched h a x)
touched h a x = go (ℕ_discrete x h) (ℕ_discrete a (suc x))
  where
    go : Dec (x ≡ h) → Dec (a ≡ suc x) → Dec (Touched h a x)
    go (yes e) d = yes (inl e)
    go (no n) (yes e) = yes (inr e)
    go (no n) (no k) = no (λ t. elim t [ inl e ↦ n e | inr e ↦ k e ])

put_on : (f : ℕ → ℕ) (h x : ℕ) → x ≡ h → put f h 1 x ≡ 1
put_on f h x e = ap (put f h 1) e ∙ put_same f h 1

both_on : (f : ℕ → ℕ) (h a x : ℕ) → Touched h a x → mark_both f h a x ≡ 1
unfolding mark_both
both_on f h zero x (inl e) = put_on f h x e
both_on f h zero x (inr e) = no_suc x e
both_on f h (suc g) x (inr e) = put_on (put f h 1) g x (sym (suc_inj g x e))
both_on f h (suc g) x (inl e) = go (ℕ_discrete x g)
  where
    go : Dec (x ≡ g) → put (put f h 1) g 1 x ≡ 1
    go (yes i) = put_on (put f h 1) g x i
    go (no n) = put_other (put f h 1) g 1 x n ∙ put_on f h x e

both_off : (f : ℕ → ℕ) (h a x : ℕ) → ¬ Touched h a x → mark_both f h a x ≡ f x
unfolding mark_both
both_off f h zero x n = put_other f h 1 x (λ e. n (inl e))
both_off f h (suc g) x n = put_other (put f h 1) g 1 x (λ e. n (inr (ap suc (sym e)))) ∙ put_other f h 1 x (λ e. n (inl e))

-- ---- the net

module _ (m : Net) (h a : ℕ) where
  pub mark_tris : (mark_net m h a).tris ≡ m.tris
  unfolding mark_net
  mark_tris = refl

  pub mark_org : (mark_net m h a).org ≡ m.org
  unfolding mark_net
  mark_org = refl

  pub mark_adj : (mark_net m h a).adj ≡ m.adj
  unfolding mark_net
  mark_adj = refl

  pub mark_on : (x : ℕ) → Touched h a x → (mark_net m h a).con x ≡ 1
  unfolding mark_net
  mark_on x t = both_on m.con h a x t

  pub mark_off : (x : ℕ) → ¬ Touched h a x → (mark_net m h a).con x ≡ m.con x
  unfolding mark_net
  mark_off x n = both_off m.con h a x n

  -- an edge without a mark had none
  pub mark_free : (x : ℕ) → (mark_net m h a).con x ≡ 0 → m.con x ≡ 0
  mark_free x e = go (touched h a x)
    where
      go : Dec (Touched h a x) → m.con x ≡ 0
      go (yes t) = absurd (one_not ((mark_net m h a).con x) (mark_on x t) e)
      go (no n) = sym (mark_off x n) ∙ e

  pub mark_present : (k : ℕ) → Present m k → Present (mark_net m h a) k
  unfolding mark_net
  mark_present k p = p

  -- marked edges stay, and the edge of h is marked
  pub mark_stays : (u w : ℕ) → Marked m u w → Marked (mark_net m h a) u w
  unfolding mark_net
  mark_stays u w s = (s.0, s.1, s.2, s.3, λ e. s.4 (mark_free s.0 e))

  pub mark_edge : h < 3 * m.tris → Marked (mark_net m h a) (m.org h) (dst m h)
  unfolding mark_net
  mark_edge b = (h, b, refl, refl, one_not ((mark_net m h a).con h) (mark_on h (inl refl)))

  -- what step 3 would flip it would have flipped before
  pub mark_wants : {P : ℕ → Pt ℤ} {rk : ℕ → ℕ} (x y : ℕ) → Wants P rk (mark_net m h a) x y → Wants P rk m x y
  unfolding mark_net
  mark_wants x y w = record { pair = w.pair; free = mark_free x w.free; gain = w.gain; ccw_t = w.ccw_t; ccw_n = w.ccw_n }

  pub mark_watched : {P : ℕ → Pt ℤ} {rk : ℕ → ℕ} (q : List ℕ) → Watched P rk m q → Watched P rk (mark_net m h a) q
  mark_watched q old x y b w = old x y (rw mark_tris at b) (mark_wants x y w)

  pub mark_rest : {P : ℕ → Pt ℤ} {rk : ℕ → ℕ} → ((x y : ℕ) → x < 3 * m.tris → ¬ Wants P rk m x y) →
      (x y : ℕ) → x < 3 * (mark_net m h a).tris → ¬ Wants P rk (mark_net m h a) x y
  mark_rest old x y b w = old x y (rw mark_tris at b) (mark_wants x y w)

-- ---- with the partner that the net has

module _ {S : ℕ → ℕ → Type 0} {m : Net} (l : Linked S m) (h : ℕ) (hb : h < 3 * m.tris) where
  abbrev a : ℕ
  a = m.adj h

  -- of partners both are marked or none
  touched_both : (x g : ℕ) → x < 3 * m.tris → m.adj x ≡ suc g → Touched h a x → Touched h a g
  touched_both x g b e (inl i) = inr (ap m.adj (sym i) ∙ e)
  touched_both x g b e (inr i) = inl (suc_inj g h (sym e ∙ l.back h x hb i))

  mates : (x g : ℕ) → x < 3 * m.tris → m.adj x ≡ suc g → (mark_net m h a).con g ≡ (mark_net m h a).con x
  mates x g b e = go (touched h a x)
    where
      go : Dec (Touched h a x) → (mark_net m h a).con g ≡ (mark_net m h a).con x
      go (yes t) = mark_on m h a g (touched_both x g b e t) ∙ sym (mark_on m h a x t)
      go (no n) = mark_off m h a g (λ t. n (touched_both g x (l.low x g b e) (l.back x g b e) t)) ∙ l.mark x g b e ∙ sym (mark_off m h a x n)

  pub mark_linked : Linked S (mark_net m h a)
  unfolding mark_net
  mark_linked = record { low = l.low; back = l.back; from = l.from; mark = mates; side = l.side }

  -- the edge is marked the other way, too
  pub mark_turned : (g : ℕ) → m.adj h ≡ suc g → Marked (mark_net m h a) (dst m h) (m.org h)
  unfolding mark_net
  mark_turned g e = (g, l.low h g hb e, l.from h g hb e, to l h g hb e, one_not ((mark_net m h a).con g) (mark_on m h a g (inr e)))

  -- a marked edge was marked, or it is that of h
  pub mark_older : (u w : ℕ) → Marked (mark_net m h a) u w → Marked m u w ⊎ EdgeOf m h u w
  unfolding mark_net
  mark_older u w s = go (touched h a s.0)
    where
      go : Dec (Touched h a s.0) → Marked m u w ⊎ EdgeOf m h u w
      go (yes (inl e)) = inr (inl (ap m.org (sym e) ∙ s.2, ap (λ (x : ℕ). dst m x) (sym e) ∙ s.3))
      go (yes (inr e)) = inr (inr (sym (to l h s.0 hb e) ∙ s.3, sym (l.from h s.0 hb e) ∙ s.2))
      go (no n) = inl (s.0, s.1, s.2, s.3, λ i. s.4 (mark_off m h a s.0 n ∙ i))

pub mark_tile : {P : ℕ → Pt ℤ} {B : Side → Pt ℤ} {n : ℕ} {m : Net} → Tiling P B n m → (h : ℕ) → h < 3 * m.tris → Tiling P B n (mark_net m h (m.adj h))
unfolding mark_net
mark_tile v h b = record { linked = mark_linked v.linked h b; corners = v.corners; ccw = v.ccw; base_ccw = v.base_ccw; areas = v.areas }
