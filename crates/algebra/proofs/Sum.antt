-- Sums over a range, in ℤ: congruence, linearity, the swap of a double sum, an indicator's sum, and the sum of what an involution
-- negates. Assumes nothing.
use mathlib.Core.Path.{◌≡◌, refl, sym, ap, ap₂, ◌∙◌, subst}
use mathlib.Core.Bool.{Bool, true, false, cond}
use Prim.Native.Nat.{ℕ, zero, suc, ◌+◌, ◌*◌, ◌/◌, ◌%◌, ◌<◌}
use native.Mathlib.Nat.{not-suc-le-zero}
use native.Mathlib.Decide.{dec_lt, ℕ_discrete}
use native.Mathlib.Omega.{arith}
use lib.Dec.{T, eqb, eqb→eq, eqb_refl}
use lib.IntN.{ℤ, pos, negsuc, ◌+ℤ◌, ◌*ℤ◌, neg_ℤ, +ℤ_idl, +ℤ_idr, +ℤ_assoc, neg_ℤ-+ℤ, neg_ℤ-neg_ℤ, *ℤ-zero, pos-ne-negsuc}
use Rattle.algebra.specs.Sum.{sum_to}
use Rattle.algebra.proofs.Laws.{+ℤ-swap, *ℤ-add}
use Rattle.algebra.proofs.Ring.{and}

pub sum_cong : (n : ℕ) (f g : ℕ → ℤ) → ((i : ℕ) → i < n → f i ≡ g i) → sum_to n f ≡ sum_to n g
unfolding sum_to
sum_cong zero f g h = refl
sum_cong (suc n) f g h = ap₂ (λ (a b : ℤ). a +ℤ b) (sum_cong n f g (λ i l. h i (omega arith))) (h n (omega arith))

pub sum_add : (n : ℕ) (f g : ℕ → ℤ) → sum_to n (λ i. f i +ℤ g i) ≡ sum_to n f +ℤ sum_to n g
unfolding sum_to
sum_add zero f g = refl
sum_add (suc n) f g = ap (λ (a : ℤ). a +ℤ (f n +ℤ g n)) (sum_add n f g) ∙ +ℤ-swap (sum_to n f) (sum_to n g) (f n) (g n)

pub sum_neg : (n : ℕ) (f : ℕ → ℤ) → sum_to n (λ i. neg_ℤ (f i)) ≡ neg_ℤ (sum_to n f)
unfolding sum_to
sum_neg zero f = refl
sum_neg (suc n) f = ap (λ (a : ℤ). a +ℤ neg_ℤ (f n)) (sum_neg n f) ∙ sym (neg_ℤ-+ℤ (sum_to n f) (f n))

pub sum_mul : (n : ℕ) (c : ℤ) (f : ℕ → ℤ) → sum_to n (λ i. c *ℤ f i) ≡ c *ℤ sum_to n f
unfolding sum_to
sum_mul zero c f = sym (*ℤ-zero c)
sum_mul (suc n) c f = ap (λ (a : ℤ). a +ℤ c *ℤ f n) (sum_mul n c f) ∙ sym (*ℤ-add c (sum_to n f) (f n))

pub sum_zero : (n : ℕ) (f : ℕ → ℤ) → ((i : ℕ) → i < n → f i ≡ pos 0) → sum_to n f ≡ pos 0
unfolding sum_to
sum_zero zero f h = refl
sum_zero (suc n) f h = ap₂ (λ (a b : ℤ). a +ℤ b) (sum_zero n f (λ i l. h i (omega arith))) (h n (omega arith))

pub sum_swap : (m n : ℕ) (f : ℕ → ℕ → ℤ) → sum_to m (λ i. sum_to n (λ j. f i j)) ≡ sum_to n (λ j. sum_to m (λ i. f i j))
unfolding sum_to
sum_swap zero n f = sym (sum_zero n (λ j. pos 0) (λ i l. refl))
sum_swap (suc m) n f = ap (λ (a : ℤ). a +ℤ sum_to n (f m)) (sum_swap m n f) ∙ sym (sum_add n (λ j. sum_to m (λ i. f i j)) (f m))

-- a test, with the equation
pub by_bool : {X : Type 0} (b : Bool) → (b ≡ true → X) → (b ≡ false → X) → X
by_bool true f g = f refl
by_bool false f g = g refl

pub eqb_no : (m n : ℕ) → ¬ (m ≡ n) → eqb m n ≡ false
eqb_no m n h = by_bool (eqb m n) (λ e. absurd (h (eqb→eq m n (subst T (sym e) tt)))) (λ e. e)

pub eqb_yes : (m n : ℕ) → m ≡ n → eqb m n ≡ true
eqb_yes m n e = by_bool (eqb m n) (λ t. t) (λ f. absurd (subst T f (subst (λ (k : ℕ). T (eqb m k)) e (eqb_refl m))))

lt_of_no : (k n : ℕ) → k < suc n → ¬ (k ≡ n) → k < n
lt_of_no k n l h = by_le (dec_lt k n)
  where
    by_le : Dec (k < n) → k < n
    by_le (yes p) = p
    by_le (no p) = absurd (h (omega arith))

pub sum_one : (n k : ℕ) (v : ℤ) → k < n → sum_to n (λ i. cond (eqb k i) v (pos 0)) ≡ v
unfolding sum_to
sum_one zero k v l = absurd (not-suc-le-zero l)
sum_one (suc n) k v l = by_bool (eqb k n) here (there (sum_one n k v))
  where
    here : eqb k n ≡ true → sum_to n (λ i. cond (eqb k i) v (pos 0)) +ℤ cond (eqb k n) v (pos 0) ≡ v
    here e =
        let kn : k ≡ n = eqb→eq k n (subst T (sym e) tt) in
        ap₂ (λ (a : ℤ) (b : Bool). a +ℤ cond b v (pos 0)) (sum_zero n (λ i. cond (eqb k i) v (pos 0)) (λ i h. ap (λ (b : Bool). cond b v (pos 0)) (eqb_no k i (λ q. omega arith)))) e ∙ +ℤ_idl v

    there : (k < n → sum_to n (λ i. cond (eqb k i) v (pos 0)) ≡ v) → eqb k n ≡ false → sum_to n (λ i. cond (eqb k i) v (pos 0)) +ℤ cond (eqb k n) v (pos 0) ≡ v
    there ih e = ap₂ (λ (a : ℤ) (b : Bool). a +ℤ cond b v (pos 0)) (ih (lt_of_no k n l (λ q. subst T (sym (eqb_yes k n q) ∙ e) tt))) e ∙ +ℤ_idr v

-- what is its own negation is zero
pub self_neg : (z : ℤ) → z ≡ neg_ℤ z → z ≡ pos 0
self_neg (pos zero) e = refl
self_neg (pos (suc n)) e = absurd (pos-ne-negsuc (suc n) n e)
self_neg (negsuc n) e = absurd (pos-ne-negsuc (suc n) n (sym e))

-- a double sum of what is antisymmetric
pub sum_anti : (n : ℕ) (f : ℕ → ℕ → ℤ) → ((i j : ℕ) → i < n → j < n → f i j ≡ neg_ℤ (f j i)) → sum_to n (λ i. sum_to n (λ j. f i j)) ≡ pos 0
sum_anti n f h =
    self_neg (sum_to n (λ i. sum_to n (λ j. f i j)))
    (sum_cong n (λ i. sum_to n (λ j. f i j)) (λ i. neg_ℤ (sum_to n (λ j. f j i))) (λ i l. sum_cong n (λ j. f i j) (λ j. neg_ℤ (f j i)) (λ j k. h i j l k) ∙ sum_neg n (λ j. f j i)) ∙
    sum_neg n (λ i. sum_to n (λ j. f j i)) ∙
    ap neg_ℤ (sum_swap n n (λ i j. f j i)))

-- three at a time
pub sum_three : (n : ℕ) (f : ℕ → ℤ) → sum_to (3 * n) f ≡ sum_to n (λ t. f (3 * t) +ℤ f (3 * t + 1) +ℤ f (3 * t + 2))
unfolding sum_to
sum_three zero f = refl
sum_three (suc n) f =
    ap (λ (k : ℕ). sum_to k f) (e n) ∙
    ap₂ (λ (a b : ℤ). a +ℤ f (3 * n) +ℤ f (suc (3 * n)) +ℤ b) (sum_three n f) (ap f (e2 n)) ∙
    ap (λ (b : ℤ). S +ℤ f (3 * n) +ℤ b +ℤ f (3 * n + 2)) (ap f (e1 n)) ∙
    ap (λ (a : ℤ). a +ℤ f (3 * n + 2)) (+ℤ_assoc S (f (3 * n)) (f (3 * n + 1))) ∙
    +ℤ_assoc S (f (3 * n) +ℤ f (3 * n + 1)) (f (3 * n + 2))
  where
    S : ℤ
    S = sum_to n (λ t. f (3 * t) +ℤ f (3 * t + 1) +ℤ f (3 * t + 2))

    e : (n : ℕ) → 3 * suc n ≡ suc (suc (suc (3 * n)))
    e n = omega arith

    e1 : (n : ℕ) → suc (3 * n) ≡ 3 * n + 1
    e1 n = omega arith

    e2 : (n : ℕ) → suc (suc (3 * n)) ≡ 3 * n + 2
    e2 n = omega arith

-- what holds of each of the three holds of all
pub thirds : (n : ℕ) (P : ℕ → Type 0) → ((t : ℕ) → t < n → P (3 * t)) → ((t : ℕ) → t < n → P (3 * t + 1)) → ((t : ℕ) → t < n → P (3 * t + 2)) → (h : ℕ) → h < 3 * n → P h
thirds n P f g k h l = go (dec_eq (h % 3) 0) (dec_eq (h % 3) 1)
  where
    dec_eq : (a b : ℕ) → Dec (a ≡ b)
    dec_eq = ℕ_discrete

    go : Dec (h % 3 ≡ 0) → Dec (h % 3 ≡ 1) → P h
    go (yes e) d = let q : 3 * (h / 3) ≡ h = omega arith in subst P q (f (h / 3) (omega arith))
    go (no e) (yes d) = let q : 3 * (h / 3) + 1 ≡ h = omega arith in subst P q (g (h / 3) (omega arith))
    go (no e) (no d) = let q : 3 * (h / 3) + 2 ≡ h = omega arith in subst P q (k (h / 3) (omega arith))

-- ---- an involution

-- has h: h has a mate
module _ (n : ℕ) (has : ℕ → Bool) (mate : ℕ → ℕ) (low : (h : ℕ) → h < n → has h ≡ true → mate h < n)
    (has-mate : (h : ℕ) → h < n → has h ≡ true → has (mate h) ≡ true) (back : (h : ℕ) → h < n → has h ≡ true → mate (mate h) ≡ h) (φ : ℕ → ℤ)
    (anti : (h : ℕ) → h < n → has h ≡ true → φ (mate h) ≡ neg_ℤ (φ h)) where
  link : ℕ → ℕ → Bool
  link h g = and (has h) (eqb (mate h) g)

  M : ℕ → ℕ → ℤ
  M h g = cond (link h g) (φ h) (pos 0)

  linked : (h g : ℕ) → link h g ≡ true → (has h ≡ true) × (mate h ≡ g)
  unfolding link
  linked h g e = go (has h) refl
    where
      go : (b : Bool) → has h ≡ b → (has h ≡ true) × (mate h ≡ g)
      go true q = (q, eqb→eq (mate h) g (subst T (sym (ap (λ (b : Bool). and b (eqb (mate h) g)) (sym q) ∙ e)) tt))
      go false q = absurd (subst T (sym (ap (λ (b : Bool). and b (eqb (mate h) g)) (sym q) ∙ e)) tt)

  link_of : (h g : ℕ) → has h ≡ true → mate h ≡ g → link h g ≡ true
  unfolding link
  link_of h g e q = ap (λ (b : Bool). and b (eqb (mate h) g)) e ∙ eqb_yes (mate h) g q

  link_sym : (h g : ℕ) → h < n → link h g ≡ true → link g h ≡ true
  link_sym h g l e =
      let p = linked h g e in
      link_of g h (subst (λ (k : ℕ). has k ≡ true) p.1 (has-mate h l p.0)) (ap mate (sym p.1) ∙ back h l p.0)

  M_anti : (h g : ℕ) → h < n → g < n → M h g ≡ neg_ℤ (M g h)
  unfolding M
  M_anti h g l k = by_bool (link h g) yes_case no_case
    where
      yes_case : link h g ≡ true → cond (link h g) (φ h) (pos 0) ≡ neg_ℤ (cond (link g h) (φ g) (pos 0))
      yes_case e =
          let p = linked h g e in
          ap (λ (b : Bool). cond b (φ h) (pos 0)) e ∙ sym (neg_ℤ-neg_ℤ (φ h)) ∙ ap neg_ℤ (sym (anti h l p.0) ∙ ap φ p.1) ∙ ap (λ (b : Bool). neg_ℤ (cond b (φ g) (pos 0))) (sym (link_sym h g l e))

      no_case : link h g ≡ false → cond (link h g) (φ h) (pos 0) ≡ neg_ℤ (cond (link g h) (φ g) (pos 0))
      no_case e =
          ap (λ (b : Bool). cond b (φ h) (pos 0)) e ∙ by_bool (link g h)
          (λ q. absurd (subst T (sym (link_sym g h k q) ∙ e) tt))
          (λ q. ap (λ (b : Bool). neg_ℤ (cond b (φ g) (pos 0))) (sym q))

  M_row : (h : ℕ) → h < n → sum_to n (λ g. M h g) ≡ cond (has h) (φ h) (pos 0)
  unfolding M link
  M_row h l = go (has h) refl
    where
      go : (b : Bool) → has h ≡ b → sum_to n (λ g. cond (and (has h) (eqb (mate h) g)) (φ h) (pos 0)) ≡ cond (has h) (φ h) (pos 0)
      go true q = rw q (sum_one n (mate h) (φ h) (low h l q))
      go false q = rw q (sum_zero n (λ g. pos 0) (λ g k. refl))

  pub mated : sum_to n (λ h. cond (has h) (φ h) (pos 0)) ≡ pos 0
  mated = sym (sum_cong n (λ h. sum_to n (λ g. M h g)) (λ h. cond (has h) (φ h) (pos 0)) M_row) ∙ sum_anti n M M_anti

  -- all of them is those with no mate
  pub unmated : sum_to n φ ≡ sum_to n (λ h. cond (has h) (pos 0) (φ h))
  unmated =
      sum_cong n φ (λ h. cond (has h) (φ h) (pos 0) +ℤ cond (has h) (pos 0) (φ h)) (λ h l. split (has h) (φ h)) ∙
      sum_add n (λ h. cond (has h) (φ h) (pos 0)) (λ h. cond (has h) (pos 0) (φ h)) ∙
      ap (λ (a : ℤ). a +ℤ sum_to n (λ h. cond (has h) (pos 0) (φ h))) mated ∙ +ℤ_idl (sum_to n (λ h. cond (has h) (pos 0) (φ h)))
    where
      split : (b : Bool) (z : ℤ) → z ≡ cond b z (pos 0) +ℤ cond b (pos 0) z
      split true z = sym (+ℤ_idr z)
      split false z = sym (+ℤ_idl z)
