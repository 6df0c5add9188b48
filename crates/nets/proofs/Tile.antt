-- Sums over the triangles of a net, and what a change of two slots does to them. Assumes nothing.
use mathlib.Core.Bool.{Bool, cond}
use mathlib.Core.List.{[], ◌∷◌}
use mathlib.Core.Path.{◌≡◌, refl, sym, ap, ap₂, ◌∙◌}
use Prim.Native.Nat.{ℕ, ◌+◌, ◌*◌, ◌/◌, ◌<◌}
use native.Mathlib.Decide.{ℕ_discrete}
use lib.Dec.{eqb}
use lib.IntN.{ℤ, pos, ◌+ℤ◌, ◌-ℤ◌, +ℤ_idr}
use Rattle.algebra.proofs.Ring.{var, ◌⊕◌, ◌⊖◌, solve}
use Rattle.algebra.proofs.Sum.{sum_cong, sum_add, sum_one, eqb_no, eqb_yes}
use Rattle.algebra.specs.Sum.{sum_to}
use Rattle.plane.proofs.Halfedges.{nxt0, nxt1, nxt2}
use Rattle.plane.specs.Halfedges.{nxt}
use Rattle.nets.specs.Nets.{Net}
use Rattle.nets.specs.Tilings.{tri}
use Rattle.nets.proofs.Slot.{Edge, e0, e1, e2, edge}

abbrev pub from {ℓ} : {A : Type 0} {X : Type ℓ} → (ℕ → A) → Net → (A → A → A → X) → ℕ → X
from P m f h = f (P (m.org h)) (P (m.org (nxt h))) (P (m.org (nxt (nxt h))))

abbrev pub Cyclic : {A : Type 0} → (A → A → A → ℤ) → Type 0
Cyclic {A} f = (a b c : A) → f a b c ≡ f b c a

pub tri_from : {A : Type 0} (P : ℕ → A) (m : Net) (f : A → A → A → ℤ) → Cyclic f → (h : ℕ) → tri P m f (h / 3) ≡ from P m f h
tri_from {A} P m f cyc h = go (edge (h / 3) h refl)
  where
    t : ℕ
    t = h / 3

    o : ℕ → A
    o x = P (m.org x)

    at0 : from P m f (3 * t) ≡ tri P m f t
    at0 = rw (nxt0 t, nxt1 t)

    at1 : from P m f (3 * t + 1) ≡ f (o (3 * t + 1)) (o (3 * t + 2)) (o (3 * t))
    at1 = rw (nxt1 t, nxt2 t)

    at2 : from P m f (3 * t + 2) ≡ f (o (3 * t + 2)) (o (3 * t)) (o (3 * t + 1))
    at2 = rw (nxt2 t, nxt0 t)

    go : Edge t h → tri P m f t ≡ from P m f h
    go (e0 e) = sym at0 ∙ ap (from P m f) (sym e)
    go (e1 e) = cyc (o (3 * t)) (o (3 * t + 1)) (o (3 * t + 2)) ∙ sym at1 ∙ ap (from P m f) (sym e)
    go (e2 e) = sym (cyc (o (3 * t + 2)) (o (3 * t)) (o (3 * t + 1))) ∙ sym at2 ∙ ap (from P m f) (sym e)

-- ---- two terms of a sum change

plus_sub : (a b : ℤ) → b ≡ a +ℤ (b -ℤ a)
plus_sub a b = solve (var 1) (var 0 ⊕ (var 1 ⊖ var 0)) (a ∷ b ∷ []) tt

pub sum_change1 : (k : ℕ) (f f' : ℕ → ℤ) (t : ℕ) → t < k → ((i : ℕ) → i < k → ¬ (i ≡ t) → f' i ≡ f i) → sum_to k f' ≡ sum_to k f +ℤ (f' t -ℤ f t)
sum_change1 k f f' t l e =
    sum_cong k f' (λ i. f i +ℤ cond (eqb t i) (f' t -ℤ f t) (pos 0)) (λ i b. go i b (ℕ_discrete t i)) ∙
    sum_add k f (λ i. cond (eqb t i) (f' t -ℤ f t) (pos 0)) ∙ ap (λ (x : ℤ). sum_to k f +ℤ x) (sum_one k t (f' t -ℤ f t) l)
  where
    go : (i : ℕ) → i < k → Dec (t ≡ i) → f' i ≡ f i +ℤ cond (eqb t i) (f' t -ℤ f t) (pos 0)
    go i b (yes q) = ap (λ (x : ℕ). f' x) (sym q) ∙ plus_sub (f t) (f' t) ∙ ap (λ (x : ℕ). f x +ℤ (f' t -ℤ f t)) q ∙ ap (λ (x : Bool). f i +ℤ cond x (f' t -ℤ f t) (pos 0)) (sym (eqb_yes t i q))
    go i b (no q) = e i b (λ r. q (sym r)) ∙ sym (+ℤ_idr (f i)) ∙ ap (λ (x : Bool). f i +ℤ cond x (f' t -ℤ f t) (pos 0)) (sym (eqb_no t i q))

pub sum_change2 : (k : ℕ) (f f' : ℕ → ℤ) (t n : ℕ) → t < k → n < k → ¬ (n ≡ t) → ((i : ℕ) → i < k → ¬ (i ≡ t) → ¬ (i ≡ n) → f' i ≡ f i) → sum_to k f' ≡ sum_to k f +ℤ (f' t -ℤ f t) +ℤ (f' n -ℤ f n)
sum_change2 k f f' t n lt ln tn e =
    sum_change1 k f1 f' n ln (λ i b q. go1 i b q (ℕ_discrete t i)) ∙
    ap₂ (λ (x y : ℤ). x +ℤ (f' n -ℤ y)) (sum_change1 k f f1 t lt (λ i b q. ap (λ (z : Bool). cond z (f' t) (f i)) (eqb_no t i (λ r. q (sym r))))
    ∙ ap (λ (z : Bool). sum_to k f +ℤ (cond z (f' t) (f t) -ℤ f t)) (eqb_yes t t refl)) (ap (λ (z : Bool). cond z (f' t) (f n)) (eqb_no t n (λ r. tn (sym r))))
  where
    f1 : ℕ → ℤ
    f1 i = cond (eqb t i) (f' t) (f i)

    go1 : (i : ℕ) → i < k → ¬ (i ≡ n) → Dec (t ≡ i) → f' i ≡ f1 i
    go1 i b q (yes r) = ap (λ (x : ℕ). f' x) (sym r) ∙ ap (λ (z : Bool). cond z (f' t) (f i)) (sym (eqb_yes t i r))
    go1 i b q (no r) = e i b (λ s. r (sym s)) q ∙ ap (λ (z : Bool). cond z (f' t) (f i)) (sym (eqb_no t i r))

-- ---- a net that tiles the base
