-- A reflective solver for identities of polynomials over ℤ. Assumes nothing.
--   Expr, eval      polynomial expressions, and their value at a list of integers (a variable past the list's end is 1)
--   norm            the normal form: a list of terms, in the order of their keys. A key is a monomial, as ONE native number
--                   whose digits in base 64 are the exponents, so that a product of monomials is a native sum and their
--                   order a native comparison. It stands for the monomial where the whole degree is below 64
--   solve           eval e₁ ρ ≡ eval e₂ ρ, where the test `same e₁ e₂` computes to true
use mathlib.Core.Path.{◌≡◌, refl, sym, ap, ap₂, ◌∙◌, subst}
use mathlib.Core.Bool.{Bool, true, false}
use mathlib.Core.List.{List, [], ◌∷◌}
use Prim.Native.Nat.{ℕ, zero, suc, ◌+◌, ◌/◌, ◌%◌, ◌^◌, ◌≤◌, ◌<◌, max, compare, Ordering}
use native.Mathlib.Nat.{le_trans, le-max_left, le-max_right, lt_of_le_of_lt, add_comm}
use native.Mathlib.Omega.{arith}
use lib.Dec.{T, ltb, leb, compare_is_eq, ltb→lt, eqb→eq}
use lib.IntN.{ℤ, pos, negsuc, ◌+ℤ◌, ◌*ℤ◌, ◌-ℤ◌, neg_ℤ, +ℤ_assoc, +ℤ_idl, +ℤ_idr, zero-*ℤ, *ℤ-zero, *ℤ_comm, neg_ℤ-+ℤ}
use Rattle.algebra.proofs.Laws.{+ℤ-left-comm, +ℤ-swap, add-*ℤ, *ℤ-add, neg-*ℤ, *ℤ-assoc, *ℤ-swap, *ℤ-1, 1-*ℤ, eq_of_sub_zero}

infixl 6 ◌⊕◌ ◌⊖◌
infixl 7 ◌⊗◌
infix 8 ⊝◌
pub data Expr : Type 0 where
  var : ℕ → Expr
  con : ℤ → Expr
  ◌⊕◌ ◌⊖◌ ◌⊗◌ : Expr → Expr → Expr
  ⊝◌ : Expr → Expr

abbrev pub look : List ℤ → ℕ → ℤ
look [] i = pos 1
look (x ∷ xs) zero = x
look (x ∷ xs) (suc i) = look xs i

abbrev pub eval : Expr → List ℤ → ℤ
eval (var i) ρ = look ρ i
eval (con z) ρ = z
eval (a ⊕ b) ρ = eval a ρ +ℤ eval b ρ
eval (a ⊖ b) ρ = eval a ρ -ℤ eval b ρ
eval (a ⊗ b) ρ = eval a ρ *ℤ eval b ρ
eval (⊝ a) ρ = neg_ℤ (eval a ρ)

-- ---- monomials

pw : ℤ → ℕ → ℤ
pw x zero = pos 1
pw x (suc n) = x *ℤ pw x n

pw_add : (x : ℤ) (m n : ℕ) → pw x (m + n) ≡ pw x m *ℤ pw x n
unfolding pw
pw_add x zero n = ap (pw x) (z n) ∙ sym (1-*ℤ (pw x n))
  where
    z : (n : ℕ) → zero + n ≡ n
    z n = omega arith
pw_add x (suc m) n = ap (pw x) (s m n) ∙ ap (λ (t : ℤ). x *ℤ t) (pw_add x m n) ∙ sym (*ℤ-assoc x (pw x m) (pw x n))
  where
    s : (m n : ℕ) → suc m + n ≡ suc (m + n)
    s m n = omega arith

mono : List ℤ → ℕ → ℤ
mono [] k = pos 1
mono (x ∷ xs) k = pw x (k % 64) *ℤ mono xs (k / 64)

-- the sum of the digits
digs : List ℤ → ℕ → ℕ
digs [] k = 0
digs (x ∷ xs) k = k % 64 + digs xs (k / 64)

mod_sum : (a b : ℕ) → a % 64 + b % 64 < 64 → (a + b) % 64 ≡ a % 64 + b % 64
mod_sum a b h = omega arith

div_sum : (a b : ℕ) → a % 64 + b % 64 < 64 → (a + b) / 64 ≡ a / 64 + b / 64
div_sum a b h = omega arith

lo : (a b c d : ℕ) → a + c + (b + d) < 64 → a + b < 64
lo a b c d h = omega arith

hi : (a b c d : ℕ) → a + c + (b + d) < 64 → c + d < 64
hi a b c d h = omega arith

mono_mul : (ρ : List ℤ) (a b : ℕ) → digs ρ a + digs ρ b < 64 → mono ρ (a + b) ≡ mono ρ a *ℤ mono ρ b
unfolding mono digs
mono_mul [] a b h = refl
mono_mul (x ∷ xs) a b h =
    ap₂ (λ (m n : ℕ). pw x m *ℤ mono xs n) (mod_sum a b l) (div_sum a b l) ∙
    ap₂ (λ (s t : ℤ). s *ℤ t) (pw_add x (a % 64) (b % 64)) (mono_mul xs (a / 64) (b / 64) (hi (a % 64) (b % 64) (digs xs (a / 64)) (digs xs (b / 64)) h)) ∙
    *ℤ-swap (pw x (a % 64)) (pw x (b % 64)) (mono xs (a / 64)) (mono xs (b / 64))
  where
    l : a % 64 + b % 64 < 64
    l = lo (a % 64) (b % 64) (digs xs (a / 64)) (digs xs (b / 64)) h

digs_sum : (ρ : List ℤ) (a b : ℕ) → digs ρ a + digs ρ b < 64 → digs ρ (a + b) ≡ digs ρ a + digs ρ b
unfolding digs
digs_sum [] a b h = refl
digs_sum (x ∷ xs) a b h =
    ap₂ (λ (m n : ℕ). m + digs xs n) (mod_sum a b l) (div_sum a b l) ∙
    ap (λ (n : ℕ). a % 64 + b % 64 + n) (digs_sum xs (a / 64) (b / 64) (hi (a % 64) (b % 64) (digs xs (a / 64)) (digs xs (b / 64)) h)) ∙
    re (a % 64) (b % 64) (digs xs (a / 64)) (digs xs (b / 64))
  where
    l : a % 64 + b % 64 < 64
    l = lo (a % 64) (b % 64) (digs xs (a / 64)) (digs xs (b / 64)) h

    re : (a b c d : ℕ) → a + b + (c + d) ≡ a + c + (b + d)
    re a b c d = omega arith

mono_zero : (ρ : List ℤ) → mono ρ 0 ≡ pos 1
unfolding mono pw
mono_zero [] = refl
mono_zero (x ∷ xs) = ap (λ (t : ℤ). pos 1 *ℤ t) (mono_zero xs)

digs_zero : (ρ : List ℤ) → digs ρ 0 ≡ 0
unfolding digs
digs_zero [] = refl
digs_zero (x ∷ xs) = ap (λ (n : ℕ). 0 + n) (digs_zero xs)

up_mod : (i : ℕ) → 64 ^ suc i % 64 ≡ 0
up_mod i = omega arith

up_div : (i : ℕ) → 64 ^ suc i / 64 ≡ 64 ^ i
up_div i = omega arith

mono_var : (ρ : List ℤ) (i : ℕ) → mono ρ (64 ^ i) ≡ look ρ i
unfolding mono pw
mono_var [] i = refl
mono_var (x ∷ xs) zero = ap₂ (λ (s t : ℤ). s *ℤ t) (*ℤ-1 x) (mono_zero xs) ∙ *ℤ-1 x
mono_var (x ∷ xs) (suc i) =
    ap₂ (λ (m n : ℕ). pw x m *ℤ mono xs n) (up_mod i) (up_div i) ∙ 1-*ℤ (mono xs (64 ^ i)) ∙ mono_var xs i

digs_var : (ρ : List ℤ) (i : ℕ) → digs ρ (64 ^ i) ≤ 1
unfolding digs
digs_var [] i = omega arith
digs_var (x ∷ xs) zero = rw (digs_zero xs) (omega arith)
digs_var (x ∷ xs) (suc i) = rw (up_mod i, up_div i) (go (digs_var xs i))
  where
    go : digs xs (64 ^ i) ≤ 1 → 0 + digs xs (64 ^ i) ≤ 1
    go h = omega arith

-- ---- polynomials

pub data Poly : Type 0 where
  nil : Poly
  tm : ℕ → ℤ → Poly → Poly

ev : List ℤ → Poly → ℤ
ev ρ nil = pos 0
ev ρ (tm k c p) = c *ℤ mono ρ k +ℤ ev ρ p

-- every monomial's degree is at most d
W : List ℤ → ℕ → Poly → Type 0
W ρ d nil = Unit {0}
W ρ d (tm k c p) = (digs ρ k ≤ d) × W ρ d p

-- a term, left out where its coefficient is 0
abbrev pub tmz : ℕ → ℤ → Poly → Poly
tmz k (pos zero) p = p
tmz k (pos (suc n)) p = tm k (pos (suc n)) p
tmz k (negsuc n) p = tm k (negsuc n) p

abbrev pub app : Poly → Poly → Poly
app nil q = q
app (tm k c p) q = tm k c (app p q)

-- by an order, with cases that wait
abbrev pub by3 : Ordering → (Unit {0} → Poly) → (Unit {0} → Poly) → (Unit {0} → Poly) → Poly
by3 Ordering.lt f g h = f tt
by3 Ordering.eq f g h = g tt
by3 Ordering.gt f g h = h tt

-- the sum, in the order of the keys; the first argument bounds the recursion, and at its end the two are only appended
abbrev pub add : ℕ → Poly → Poly → Poly
add zero p q = app p q
add (suc f) nil q = q
add (suc f) (tm k c p) nil = tm k c p
add (suc f) (tm k c p) (tm l d q) =
    by3 (compare k l) (λ u. tm k c (add f p (tm l d q))) (λ u. tmz k (c +ℤ d) (add f p q)) (λ u. tm l d (add f (tm k c p) q))

abbrev pub neg_p : Poly → Poly
neg_p nil = nil
neg_p (tm k c p) = tm k (neg_ℤ c) (neg_p p)

abbrev pub mul_t : ℕ → ℤ → Poly → Poly
mul_t k c nil = nil
mul_t k c (tm l d p) = tm (k + l) (c *ℤ d) (mul_t k c p)

abbrev pub mul : Poly → Poly → Poly
mul nil q = nil
mul (tm k c p) q = add 100000 (mul_t k c q) (mul p q)

abbrev pub len : Poly → ℕ
len nil = 0
len (tm k c p) = suc (len p)

abbrev pub by2 : Bool → (Unit {0} → Poly) → (Unit {0} → Poly) → Poly
by2 true f g = f tt
by2 false f g = g tt

-- the product goes through the terms of the shorter factor
abbrev pub mul_s : Poly → Poly → Poly
mul_s p q = by2 (leb (len p) (len q)) (λ u. mul p q) (λ u. mul q p)

abbrev pub norm : Expr → Poly
norm (var i) = tm (64 ^ i) (pos 1) nil
norm (con z) = tmz 0 z nil
norm (a ⊕ b) = add 100000 (norm a) (norm b)
norm (a ⊖ b) = add 100000 (norm a) (neg_p (norm b))
norm (a ⊗ b) = mul_s (norm a) (norm b)
norm (⊝ a) = neg_p (norm a)

abbrev pub deg : Expr → ℕ
deg (var i) = 1
deg (con z) = 0
deg (a ⊕ b) = max (deg a) (deg b)
deg (a ⊖ b) = max (deg a) (deg b)
deg (a ⊗ b) = deg a + deg b
deg (⊝ a) = deg a

-- ---- soundness

module _ (ρ : List ℤ) where
  by3_ind : (o : Ordering) (f g h : Unit {0} → Poly) (Q : Poly → Type 0) → Q (f tt) → (o ≡ Ordering.eq → Q (g tt)) → Q (h tt) → Q (by3 o f g h)
  by3_ind Ordering.lt f g h Q a b c = a
  by3_ind Ordering.eq f g h Q a b c = b refl
  by3_ind Ordering.gt f g h Q a b c = c

  ev_tmz : (k : ℕ) (c : ℤ) (p : Poly) → ev ρ (tmz k c p) ≡ c *ℤ mono ρ k +ℤ ev ρ p
  unfolding ev
  ev_tmz k (pos zero) p = sym (ap (λ (t : ℤ). t +ℤ ev ρ p) (zero-*ℤ (mono ρ k)) ∙ +ℤ_idl (ev ρ p))
  ev_tmz k (pos (suc n)) p = refl
  ev_tmz k (negsuc n) p = refl

  W_tmz : (d k : ℕ) (c : ℤ) (p : Poly) → digs ρ k ≤ d → W ρ d p → W ρ d (tmz k c p)
  unfolding W
  W_tmz d k (pos zero) p h w = w
  W_tmz d k (pos (suc n)) p h w = (h, w)
  W_tmz d k (negsuc n) p h w = (h, w)

  ev_app : (p q : Poly) → ev ρ (app p q) ≡ ev ρ p +ℤ ev ρ q
  unfolding ev
  ev_app nil q = sym (+ℤ_idl (ev ρ q))
  ev_app (tm k c p) q = ap (λ (t : ℤ). c *ℤ mono ρ k +ℤ t) (ev_app p q) ∙ sym (+ℤ_assoc (c *ℤ mono ρ k) (ev ρ p) (ev ρ q))

  W_app : (d : ℕ) (p q : Poly) → W ρ d p → W ρ d q → W ρ d (app p q)
  unfolding W
  W_app d nil q v w = w
  W_app d (tm k c p) q v w = (v.0, W_app d p q v.1 w)

  -- the three cases of a sum
  same_key : (c d m p q : ℤ) → (c +ℤ d) *ℤ m +ℤ (p +ℤ q) ≡ c *ℤ m +ℤ p +ℤ (d *ℤ m +ℤ q)
  same_key c d m p q = ap (λ (t : ℤ). t +ℤ (p +ℤ q)) (add-*ℤ c d m) ∙ +ℤ-swap (c *ℤ m) (d *ℤ m) p q

  cmp_eq : (k l : ℕ) → compare k l ≡ Ordering.eq → k ≡ l
  cmp_eq k l e = eqb→eq k l (subst (λ (o : Ordering). T (compare_is_eq o)) (sym e) tt)

  ev_add : (f : ℕ) (p q : Poly) → ev ρ (add f p q) ≡ ev ρ p +ℤ ev ρ q
  unfolding ev
  ev_add zero p q = ev_app p q
  ev_add (suc f) nil q = sym (+ℤ_idl (ev ρ q))
  ev_add (suc f) (tm k c p) nil = sym (+ℤ_idr (c *ℤ mono ρ k +ℤ ev ρ p))
  ev_add (suc f) (tm k c p) (tm l d q) =
      by3_ind (compare k l) (λ u. tm k c (add f p (tm l d q))) (λ u. tmz k (c +ℤ d) (add f p q)) (λ u. tm l d (add f (tm k c p) q))
      (λ (r : Poly). ev ρ r ≡ c *ℤ mono ρ k +ℤ ev ρ p +ℤ (d *ℤ mono ρ l +ℤ ev ρ q))
      (ap (λ (t : ℤ). c *ℤ mono ρ k +ℤ t) (ev_add f p (tm l d q)) ∙ sym (+ℤ_assoc (c *ℤ mono ρ k) (ev ρ p) (d *ℤ mono ρ l +ℤ ev ρ q)))
      (λ e. ev_tmz k (c +ℤ d) (add f p q) ∙ ap (λ (t : ℤ). (c +ℤ d) *ℤ mono ρ k +ℤ t) (ev_add f p q) ∙ same_key c d (mono ρ k) (ev ρ p) (ev ρ q)
      ∙ ap (λ (n : ℕ). c *ℤ mono ρ k +ℤ ev ρ p +ℤ (d *ℤ mono ρ n +ℤ ev ρ q)) (cmp_eq k l e))
      (ap (λ (t : ℤ). d *ℤ mono ρ l +ℤ t) (ev_add f (tm k c p) q) ∙ +ℤ-left-comm (d *ℤ mono ρ l) (c *ℤ mono ρ k +ℤ ev ρ p) (ev ρ q))

  W_add : (f d : ℕ) (p q : Poly) → W ρ d p → W ρ d q → W ρ d (add f p q)
  unfolding W
  W_add zero d p q v w = W_app d p q v w
  W_add (suc f) d nil q v w = w
  W_add (suc f) d (tm k c p) nil v w = v
  W_add (suc f) d (tm k c p) (tm l e q) v w =
      by3_ind (compare k l) (λ u. tm k c (add f p (tm l e q))) (λ u. tmz k (c +ℤ e) (add f p q)) (λ u. tm l e (add f (tm k c p) q))
      (λ (r : Poly). W ρ d r)
      (v.0, W_add f d p (tm l e q) v.1 w)
      (λ x. W_tmz d k (c +ℤ e) (add f p q) v.0 (W_add f d p q v.1 w.1))
      (w.0, W_add f d (tm k c p) q v w.1)

  W_mono : (d e : ℕ) (p : Poly) → d ≤ e → W ρ d p → W ρ e p
  unfolding W
  W_mono d e nil h w = tt
  W_mono d e (tm k c p) h w = (le_trans w.0 h, W_mono d e p h w.1)

  ev_neg_p : (p : Poly) → ev ρ (neg_p p) ≡ neg_ℤ (ev ρ p)
  unfolding ev
  ev_neg_p nil = refl
  ev_neg_p (tm k c p) = ap₂ (λ (s t : ℤ). s +ℤ t) (neg-*ℤ c (mono ρ k)) (ev_neg_p p) ∙ sym (neg_ℤ-+ℤ (c *ℤ mono ρ k) (ev ρ p))

  W_neg_p : (d : ℕ) (p : Poly) → W ρ d p → W ρ d (neg_p p)
  unfolding W
  W_neg_p d nil w = tt
  W_neg_p d (tm k c p) w = (w.0, W_neg_p d p w.1)

  le_sum_lt : (a b d e : ℕ) → a ≤ d → b ≤ e → d + e < 64 → a + b < 64
  le_sum_lt a b d e h k l = omega arith

  le_sum : (a b d e : ℕ) → a ≤ d → b ≤ e → a + b ≤ d + e
  le_sum a b d e h k = omega arith

  term_mul : (c d m n p : ℤ) → c *ℤ d *ℤ (m *ℤ n) +ℤ c *ℤ m *ℤ p ≡ c *ℤ m *ℤ (d *ℤ n +ℤ p)
  term_mul c d m n p = ap (λ (t : ℤ). t +ℤ c *ℤ m *ℤ p) (*ℤ-swap c d m n) ∙ sym (*ℤ-add (c *ℤ m) (d *ℤ n) p)

  ev_mul_t : (k : ℕ) (c : ℤ) (d e : ℕ) (p : Poly) → digs ρ k ≤ d → W ρ e p → d + e < 64 → ev ρ (mul_t k c p) ≡ c *ℤ mono ρ k *ℤ ev ρ p
  unfolding ev W
  ev_mul_t k c d e nil h w b = sym (*ℤ-zero (c *ℤ mono ρ k))
  ev_mul_t k c d e (tm l a p) h w b =
      ap₂ (λ (s t : ℤ). c *ℤ a *ℤ s +ℤ t) (mono_mul ρ k l (le_sum_lt (digs ρ k) (digs ρ l) d e h w.0 b)) (ev_mul_t k c d e p h w.1 b) ∙
      term_mul c a (mono ρ k) (mono ρ l) (ev ρ p)

  W_mul_t : (k : ℕ) (c : ℤ) (d e : ℕ) (p : Poly) → digs ρ k ≤ d → W ρ e p → d + e < 64 → W ρ (d + e) (mul_t k c p)
  unfolding W
  W_mul_t k c d e nil h w b = tt
  W_mul_t k c d e (tm l a p) h w b =
      (subst (λ (n : ℕ). n ≤ d + e) (sym (digs_sum ρ k l (le_sum_lt (digs ρ k) (digs ρ l) d e h w.0 b))) (le_sum (digs ρ k) (digs ρ l) d e h w.0), W_mul_t k c d e p h w.1 b)

  ev_mul : (d e : ℕ) (p q : Poly) → W ρ d p → W ρ e q → d + e < 64 → ev ρ (mul p q) ≡ ev ρ p *ℤ ev ρ q
  unfolding ev W
  ev_mul d e nil q v w b = sym (zero-*ℤ (ev ρ q))
  ev_mul d e (tm k c p) q v w b =
      ev_add 100000 (mul_t k c q) (mul p q) ∙ ap₂ (λ (s t : ℤ). s +ℤ t) (ev_mul_t k c d e q v.0 w b) (ev_mul d e p q v.1 w b) ∙
      sym (add-*ℤ (c *ℤ mono ρ k) (ev ρ p) (ev ρ q))

  W_mul : (d e : ℕ) (p q : Poly) → W ρ d p → W ρ e q → d + e < 64 → W ρ (d + e) (mul p q)
  unfolding W
  W_mul d e nil q v w b = tt
  W_mul d e (tm k c p) q v w b = W_add 100000 (d + e) (mul_t k c q) (mul p q) (W_mul_t k c d e q v.0 w b) (W_mul d e p q v.1 w b)

  by2_ind : (o : Bool) (f g : Unit {0} → Poly) (Q : Poly → Type 0) → Q (f tt) → Q (g tt) → Q (by2 o f g)
  by2_ind true f g Q a b = a
  by2_ind false f g Q a b = b

  turn : (d e : ℕ) → d + e < 64 → e + d < 64
  turn d e b = omega arith

  ev_mul_s : (d e : ℕ) (p q : Poly) → W ρ d p → W ρ e q → d + e < 64 → ev ρ (mul_s p q) ≡ ev ρ p *ℤ ev ρ q
  ev_mul_s d e p q v w b =
      by2_ind (leb (len p) (len q)) (λ u. mul p q) (λ u. mul q p) (λ (r : Poly). ev ρ r ≡ ev ρ p *ℤ ev ρ q)
      (ev_mul d e p q v w b)
      (ev_mul e d q p w v (turn d e b) ∙ *ℤ_comm (ev ρ q) (ev ρ p))

  W_mul_s : (d e : ℕ) (p q : Poly) → W ρ d p → W ρ e q → d + e < 64 → W ρ (d + e) (mul_s p q)
  W_mul_s d e p q v w b =
      by2_ind (leb (len p) (len q)) (λ u. mul p q) (λ u. mul q p) (λ (r : Poly). W ρ (d + e) r)
      (W_mul d e p q v w b)
      (subst (λ (n : ℕ). W ρ n (mul q p)) (add_comm e d) (W_mul e d q p w v (turn d e b)))

  Good : Expr → Type 0
  Good e = (ev ρ (norm e) ≡ eval e ρ) × W ρ (deg e) (norm e)

  max_l : (a b : ℕ) → max a b < 64 → a < 64
  max_l a b h = lt_of_le_of_lt (le-max_left a b) h

  max_r : (a b : ℕ) → max a b < 64 → b < 64
  max_r a b h = lt_of_le_of_lt (le-max_right a b) h

  sum_l : (a b : ℕ) → a + b < 64 → a < 64
  sum_l a b h = omega arith

  sum_r : (a b : ℕ) → a + b < 64 → b < 64
  sum_r a b h = omega arith

  good_con : (z : ℤ) → Good (con z)
  unfolding Good ev W
  good_con z = (
    ev_tmz 0 z nil ∙ +ℤ_idr (z *ℤ mono ρ 0) ∙ ap (λ (t : ℤ). z *ℤ t) (mono_zero ρ) ∙ *ℤ-1 z,
    W_tmz 0 0 z nil (rw (digs_zero ρ) (omega arith)) tt,
  )

  good_var : (i : ℕ) → Good (var i)
  unfolding Good ev W
  good_var i = (+ℤ_idr (pos 1 *ℤ mono ρ (64 ^ i)) ∙ 1-*ℤ (mono ρ (64 ^ i)) ∙ mono_var ρ i, (digs_var ρ i, tt))

  good_add : (a b : Expr) → Good a → Good b → Good (a ⊕ b)
  unfolding Good
  good_add a b g h = (
    ev_add 100000 (norm a) (norm b) ∙ ap₂ (λ (s t : ℤ). s +ℤ t) g.0 h.0,
    W_add 100000 (max (deg a) (deg b)) (norm a) (norm b) (W_mono (deg a) (max (deg a) (deg b)) (norm a) (le-max_left (deg a) (deg b)) g.1)
        (W_mono (deg b) (max (deg a) (deg b)) (norm b) (le-max_right (deg a) (deg b)) h.1),
  )

  good_neg : (a : Expr) → Good a → Good (⊝ a)
  unfolding Good
  good_neg a g = (ev_neg_p (norm a) ∙ ap neg_ℤ g.0, W_neg_p (deg a) (norm a) g.1)

  good_mul : (a b : Expr) → deg a + deg b < 64 → Good a → Good b → Good (a ⊗ b)
  unfolding Good
  good_mul a b l g h = (
    ev_mul_s (deg a) (deg b) (norm a) (norm b) g.1 h.1 l ∙ ap₂ (λ (s t : ℤ). s *ℤ t) g.0 h.0,
    W_mul_s (deg a) (deg b) (norm a) (norm b) g.1 h.1 l,
  )

  good_sub : (a b : Expr) → Good a → Good b → Good (a ⊖ b)
  unfolding Good
  good_sub a b g h = good_add a (⊝ b) g (good_neg b h)

  good : (e : Expr) → deg e < 64 → Good e
  good (var i) l = good_var i
  good (con z) l = good_con z
  good (a ⊕ b) l = good_add a b (good a (max_l (deg a) (deg b) l)) (good b (max_r (deg a) (deg b) l))
  good (a ⊖ b) l = good_sub a b (good a (max_l (deg a) (deg b) l)) (good b (max_r (deg a) (deg b) l))
  good (a ⊗ b) l = good_mul a b l (good a (sum_l (deg a) (deg b) l)) (good b (sum_r (deg a) (deg b) l))
  good (⊝ a) l = good_neg a (good a l)

-- ---- the test, and the solver

abbrev pub is_nil : Poly → Bool
is_nil nil = true
is_nil (tm k c p) = false

abbrev pub and : Bool → Bool → Bool
and true b = b
and false b = false

pub and_l : (a b : Bool) → T (and a b) → T a
and_l true b t = tt
and_l false b t = t

pub and_r : (a b : Bool) → T (and a b) → T b
and_r true b t = t
and_r false b t = absurd t

ev_nil : (ρ : List ℤ) (p : Poly) → T (is_nil p) → ev ρ p ≡ pos 0
unfolding ev
ev_nil ρ nil t = refl
ev_nil ρ (tm k c p) t = absurd t

abbrev pub same : Expr → Expr → Bool
same a b = and (ltb (deg (a ⊖ b)) 64) (is_nil (norm (a ⊖ b)))

pub solve : (a b : Expr) (ρ : List ℤ) → T (same a b) → eval a ρ ≡ eval b ρ
unfolding Good
solve a b ρ t =
    eq_of_sub_zero (eval a ρ) (eval b ρ)
    (sym (good ρ (a ⊖ b) (ltb→lt (deg (a ⊖ b)) 64 (and_l (ltb (deg (a ⊖ b)) 64) (is_nil (norm (a ⊖ b))) t))).0 ∙
    ev_nil ρ (norm (a ⊖ b)) (and_r (ltb (deg (a ⊖ b)) 64) (is_nil (norm (a ⊖ b))) t))

-- the same where h is zero
pub solve0 : (a b h t : Expr) (ρ : List ℤ) → T (same a (b ⊕ h ⊗ t)) → eval h ρ ≡ pos 0 → eval a ρ ≡ eval b ρ
solve0 a b h t ρ s e =
    solve a (b ⊕ h ⊗ t) ρ s ∙ ap (λ (z : ℤ). eval b ρ +ℤ z *ℤ eval t ρ) e ∙ ap (λ (z : ℤ). eval b ρ +ℤ z) (zero-*ℤ (eval t ρ)) ∙ +ℤ_idr (eval b ρ)
