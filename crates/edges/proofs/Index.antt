-- One edge more in the index. Assumes nothing.
use mathlib.Core.Path.{◌≡◌, sym, ap, ◌∙◌}
use mathlib.Core.List.{List}
use Prim.Native.Nat.{ℕ, ◌+◌, ◌≤◌, ◌<◌}
use native.Mathlib.Decide.{ℕ_discrete}
use native.Mathlib.Numerals.{add-one}
use native.Mathlib.Omega.{arith}
use borrow.Author.Tests.{eq-eqb, ne_eqb}
use lib.Dec.{eqb}
use lib.ListN.{length, get_or, set, length-set}
use lib.Seq.{get_or-set_same, get_or-set_other}
use Rattle.tables.specs.Rules.{corner}
use Rattle.rooms.specs.Rest.{Rest}
use Rattle.edges.specs.Index.{last_from, Corners, Indexed}
use Rattle.edges.proofs.Last.{last_yes, last_no}

module _ (n : ℕ) (xs : List ℕ) (w : List ℕ) (h : ℕ) (low : h < length xs) (c : Corners n xs) (room : n + length xs ≤ length w) (i : Indexed n xs h w) where
  abbrev v : ℕ
  v = corner xs h

  abbrev w₁ : List ℕ
  w₁ = set w (n + h) (get_or w v 0)

  -- the head is linked from the new edge, and the new edge is the head
  abbrev pub more : List ℕ
  more = set w₁ v (h + 1)

  size₁ : length w₁ ≡ length w
  size₁ = length-set w (n + h) (get_or w v 0)

  pub more_size : length more ≡ length w
  more_size = length-set w₁ v (h + 1) ∙ size₁

  -- a place that is neither
  other : (p : ℕ) → (p ≡ v → ⊥) → (p ≡ n + h → ⊥) → get_or more p 0 ≡ get_or w p 0
  other p a b = get_or-set_other w₁ v p (h + 1) 0 a ∙ get_or-set_other w (n + h) p (get_or w v 0) 0 b

  heads : (u : ℕ) → u < n → Dec (u ≡ v) → get_or more u 0 ≡ last_from xs u (h + 1)
  heads u l (yes e) =
      let q = c h low in
      let z = size₁ in
      ap (λ (x : ℕ). get_or more x 0) e ∙ get_or-set_same w₁ v (h + 1) 0 (omega arith) ∙ add-one h ∙ sym (last_yes (λ g. eqb (corner xs g) u) h (eq-eqb v u (sym e))) ∙ ap (last_from xs u) (sym (add-one h))
  heads u l (no f) =
      other u f (λ e. let b : ⊥ = omega arith in b) ∙ i.heads u l ∙ sym (last_no (λ g. eqb (corner xs g) u) h (ne_eqb v u (λ e. f (sym e)))) ∙ ap (last_from xs u) (sym (add-one h))

  links : (g : ℕ) → g < h + 1 → Dec (g ≡ h) → get_or more (n + g) 0 ≡ last_from xs (corner xs g) g
  links g l (yes e) =
      let q = c h low in
      ap (λ (x : ℕ). get_or more (n + x) 0) e ∙ get_or-set_other w₁ v (n + h) (h + 1) 0 (λ r. let b : ⊥ = omega arith in b)
      ∙ get_or-set_same w (n + h) (get_or w v 0) 0 (omega arith) ∙ i.heads v q ∙ ap (λ (x : ℕ). last_from xs (corner xs x) x) (sym e)
  links g l (no f) =
      let q = c h low in
      other (n + g) (λ r. let b : ⊥ = omega arith in b) (λ r. let b : ⊥ = omega arith in b) ∙ i.links g (omega arith)

  pub more_indexed : Indexed n xs (h + 1) more
  more_indexed = record { heads = λ u l. heads u l (ℕ_discrete u v); links = λ g l. links g l (ℕ_discrete g h) }

  pub more_rest : (w₀ : List ℕ) → Rest (n + length xs) w₀ w → Rest (n + length xs) w₀ more
  more_rest w₀ r = record {
    size = more_size ∙ r.size;
    same = λ p l. let q = c h low in other p (λ e. let b : ⊥ = omega arith in b) (λ e. let b : ⊥ = omega arith in b) ∙ r.same p l;
  }
