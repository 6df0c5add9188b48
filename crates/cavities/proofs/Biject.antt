-- A sum over the numbers that pass a test, carried along a one-to-one correspondence. Assumes nothing.
use mathlib.Core.Bool.{Bool, true, false, cond, ◌&&◌}
use mathlib.Core.Path.{◌≡◌, refl, sym, ap, ◌∙◌, subst}
use Prim.Native.Nat.{ℕ, ◌<◌}
use lib.Dec.{T, eqb, eqb→eq}
use lib.IntN.{ℤ, pos}
use Rattle.algebra.proofs.Sum.{sum_cong, sum_zero, sum_swap, sum_one, by_bool, eqb_yes}
use Rattle.algebra.specs.Sum.{sum_to}

-- p goes into p' by to, which keeps the terms
pub record Into (n n' : ℕ) (p p' : ℕ → Bool) (f f' : ℕ → ℤ) (to : ℕ → ℕ) (h : ℕ) : Type 0 where
  pub low : to h < n'
  pub is : p' (to h) ≡ true
  pub same : f' (to h) ≡ f h

module _ (n : ℕ) (p : ℕ → Bool) (f : ℕ → ℤ) (to : ℕ → ℕ) where
  cell : ℕ → ℕ → ℤ
  cell h g = cond (p h && eqb (to h) g) (f h) (pos 0)

  row : (n' : ℕ) (h : ℕ) → (p h ≡ true → to h < n') → sum_to n' (cell h) ≡ cond (p h) (f h) (pos 0)
  unfolding cell
  row n' h low = go (p h) refl
    where
      go : (b : Bool) → p h ≡ b → sum_to n' (λ g. cond (p h && eqb (to h) g) (f h) (pos 0)) ≡ cond (p h) (f h) (pos 0)
      go true q = rw q (sum_one n' (to h) (f h) (low q))
      go false q = rw q (sum_zero n' (λ g. pos 0) (λ g k. refl))

linked : (b : Bool) (k g : ℕ) → (b && eqb k g) ≡ true → (b ≡ true) × (k ≡ g)
linked true k g e = (refl, eqb→eq k g (subst T (sym e) tt))
linked false k g e = absurd (subst T (sym e) tt)

link_of : (b : Bool) (k g : ℕ) → b ≡ true → k ≡ g → (b && eqb k g) ≡ true
link_of true k g e q = eqb_yes k g q
link_of false k g e q = absurd (subst T (sym e) tt)

no_true : (b : Bool) → (b ≡ true → ⊥) → b ≡ false
no_true true f = absurd (f refl)
no_true false f = refl

module _ (n n' : ℕ) (p p' : ℕ → Bool) (f f' : ℕ → ℤ) (to fro : ℕ → ℕ) (there : (h : ℕ) → h < n → p h ≡ true → Into n n' p p' f f' to h)
    (back : (g : ℕ) → g < n' → p' g ≡ true → Into n' n p' p f' f fro g) (one : (h : ℕ) → h < n → p h ≡ true → fro (to h) ≡ h)
    (other : (g : ℕ) → g < n' → p' g ≡ true → to (fro g) ≡ g) where
  cells : (h g : ℕ) → h < n → g < n' → cell n p f to h g ≡ cell n' p' f' fro g h
  unfolding cell
  cells h g l k = by_bool (p h && eqb (to h) g) yes_case no_case
    where
      yes_case : (p h && eqb (to h) g) ≡ true → cond (p h && eqb (to h) g) (f h) (pos 0) ≡ cond (p' g && eqb (fro g) h) (f' g) (pos 0)
      yes_case e =
          let r = linked (p h) (to h) g e in
          let i = there h l r.0 in
          ap (λ (b : Bool). cond b (f h) (pos 0)) e ∙ sym i.same ∙ ap f' r.1 ∙
          ap (λ (b : Bool). cond b (f' g) (pos 0)) (sym (link_of (p' g) (fro g) h (subst (λ (x : ℕ). p' x ≡ true) r.1 i.is) (ap fro (sym r.1) ∙ one h l r.0)))

      no_case : (p h && eqb (to h) g) ≡ false → cond (p h && eqb (to h) g) (f h) (pos 0) ≡ cond (p' g && eqb (fro g) h) (f' g) (pos 0)
      no_case e =
          ap (λ (b : Bool). cond b (f h) (pos 0)) e ∙
          ap (λ (b : Bool). cond b (f' g) (pos 0)) (sym (no_true (p' g && eqb (fro g) h) (λ q.
          let r = linked (p' g) (fro g) h q in
          let i = back g k r.0 in
          subst T (sym (link_of (p h) (to h) g (subst (λ (x : ℕ). p x ≡ true) r.1 i.is) (ap to (sym r.1) ∙ other g k r.0)) ∙ e) tt)))

  pub sum_biject : sum_to n (λ h. cond (p h) (f h) (pos 0)) ≡ sum_to n' (λ g. cond (p' g) (f' g) (pos 0))
  sum_biject =
      sym (sum_cong n (λ h. sum_to n' (cell n p f to h)) (λ h. cond (p h) (f h) (pos 0)) (λ h l. row n p f to n' h (λ e. (there h l e).low))) ∙
      sum_cong n (λ h. sum_to n' (cell n p f to h)) (λ h. sum_to n' (λ g. cell n' p' f' fro g h)) (λ h l. sum_cong n' (cell n p f to h) (λ g. cell n' p' f' fro g h) (λ g k. cells h g l k)) ∙
      sum_swap n n' (λ h g. cell n' p' f' fro g h) ∙
      sum_cong n' (λ g. sum_to n (cell n' p' f' fro g)) (λ g. cond (p' g) (f' g) (pos 0)) (λ g k. row n' p' f' fro n g (λ e. (back g k e).low))
