-- Laws of the reading of a figure, as its loops use them. Assumes nothing.
use mathlib.Core.Path.{◌≡◌, sym, ap, ◌∙◌}
use mathlib.Core.Bool.{Bool, true, false, ◌&&◌, false≢true}
use mathlib.Core.List.{List}
use Prim.Native.Nat.{ℕ, suc, ◌+◌, ◌-◌, ◌*◌, ◌≤◌, ◌<◌}
use native.Mathlib.Numerals.{add-one}
use native.Mathlib.Omega.{arith}
use borrow.Author.Tests.{lt-ltb, le-ltb}
use lib.Dec.{eqb, ltb, leb}
use lib.ListN.{length, set, get_or}
use lib.IntN.{ℤ}
use Rattle.std.specs.Prelude.{None, Result, Ok, Err, cond}
use Rattle.std.specs.Result.{is_ok}
use Rattle.algebra.proofs.Tests.{by_test}
use Rattle.texts.specs.Words.{word_start, word_end, all_digits, value_of, number_at, word_at, some, next_word}
use Rattle.texts.specs.Figures.{unsigned, taken, on_taken, entered, on_all, read_all, put_all, put_points, put_pairs, Outcome, outcome, ended, tail_of, rest_of, figure_of}
use Rattle.texts.specs.declared.Number.{Number}
use Rattle.texts.specs.declared.Figure.{Figure}
use Rattle.texts.specs.declared.Fault.{Fault}
use Rattle.texts.specs.declared.Fault.TheVariants.{TooMany, NoRoom}

-- ---- a number was taken, or there was a fault
abbrev got : {A E : Type 0} → Result A E → A → A
got (Ok x) d = x
got (Err e) d = d

abbrev lost : {A E : Type 0} → Result A E → E → E
lost (Ok x) d = d
lost (Err e) d = e

module _ {X Y : Type 0} (v : Bool → ℕ → X) where
  on_go : (f : X → ℕ → Y) (g : Fault → Y) (r : Result Number Fault) (x : X) (w : Number) → entered v r ≡ Ok (x, w) → on_taken r (λ minus n e. f (v minus n) e) g ≡ f x w.end
  on_go f g (Ok u) x w h = ap (λ (q : Result (X × Number) Fault). f (got q (x, w)).0 (got q (x, w)).1.end) h
  on_go f g (Err a) x w h = absurd (false≢true (ap is_ok h))

  on_stop : (f : Bool → ℕ → ℕ → Y) (g : Fault → Y) (r : Result Number Fault) (a : Fault) → entered v r ≡ Err a → on_taken r f g ≡ g a
  on_stop f g (Ok w) a h = absurd (false≢true (ap is_ok (sym h)))
  on_stop f g (Err b) a h = ap (λ (q : Result (X × Number) Fault). g (lost q a)) h

-- ---- one number more, of count
module _ {X : Type 0} (c : Bool) (v : Bool → ℕ → X) (text : List ℕ) (i p count : ℕ) where
  abbrev next : Result Number Fault
  next = taken c (next_word text i)

  left : p < count → count - p ≡ suc (count - (p + 1))
  left l = omega arith

  pub read_go : p < count → (x : X) (w : Number) → entered v next ≡ Ok (x, w) → read_all c text i (count - p) ≡ read_all c text w.end (count - (p + 1))
  unfolding read_all
  read_go l x w h = ap (read_all c text i) (left l) ∙ on_go v (λ x e. read_all c text e (count - (p + 1))) (λ a. Err a) next x w h

  pub read_stop : p < count → (a : Fault) → entered v next ≡ Err a → read_all c text i (count - p) ≡ Err a
  unfolding read_all
  read_stop l a h = ap (read_all c text i) (left l) ∙ on_stop v (λ m n e. read_all c text e (count - (p + 1))) (λ a. Err a) next a h

  module _ (xs : List X) where
    pub put_go : p < count → (x : X) (w : Number) → entered v next ≡ Ok (x, w) → put_all c v text i p (count - p) xs ≡ put_all c v text w.end (p + 1) (count - (p + 1)) (set xs p x)
    unfolding put_all
    put_go l x w h =
        ap (λ (k : ℕ). put_all c v text i p k xs) (left l) ∙ on_go v (λ x e. put_all c v text e (suc p) (count - (p + 1)) (set xs p x)) (λ a. xs) next x w h
        ∙ ap (λ (q : ℕ). put_all c v text w.end q (count - (p + 1)) (set xs p x)) (sym (add-one p))

    pub put_stop : p < count → (a : Fault) → entered v next ≡ Err a → put_all c v text i p (count - p) xs ≡ xs
    unfolding put_all
    put_stop l a h =
        ap (λ (k : ℕ). put_all c v text i p k xs) (left l) ∙ on_stop v (λ m n e. put_all c v text e (suc p) (count - (p + 1)) (set xs p (v m n))) (λ a. xs) next a h

    pub put_end : count ≤ p → put_all c v text i p (count - p) xs ≡ xs
    unfolding put_all
    put_end l = let e : count - p ≡ 0 = omega arith in ap (λ (k : ℕ). put_all c v text i p k xs) e

  pub read_end : count ≤ p → read_all c text i (count - p) ≡ Ok i
  unfolding read_all
  read_end l = let e : count - p ≡ 0 = omega arith in ap (read_all c text i) e

-- ---- a word follows a figure, or none does
module _ (text : List ℕ) (n m s : ℕ) where
  number_is : (minus : Bool) (i e : ℕ) → ended n m (some (number_at text s minus i e)) ≡ Err (TooMany s)
  unfolding number_at
  number_is minus i e =
      by_test (ltb i e && all_digits text i (e - i)) (λ h. by_test (leb (value_of text i (e - i)) 4294967295) (λ k. rw (h, k)) (λ k. rw (h, k))) (λ h. rw h)

  word_is : (e : ℕ) → ended n m (some (word_at text s e)) ≡ Err (TooMany s)
  unfolding word_at
  word_is e =
      let minus = number_at text s true (s + 1) e in
      let plain = number_at text s false s e in
      by_test (eqb (get_or text s 0) 45) (λ h. ap (λ (b : Bool). ended n m (some (cond b minus plain))) h ∙ number_is true (s + 1) e)
      (λ h. ap (λ (b : Bool). ended n m (some (cond b minus plain))) h ∙ number_is false s e)

module _ (text : List ℕ) (n m i : ℕ) where
  pub ended_more : word_start text i < length text → Err (TooMany (word_start text i)) ≡ ended n m (next_word text i)
  unfolding next_word
  ended_more l =
      let s = word_start text i in
      sym (ap (λ (b : Bool). ended n m (cond b (some (word_at text s (word_end text s))) (Ok None))) (lt-ltb s (length text) l) ∙ word_is text n m s (word_end text s))

  pub ended_none : length text ≤ word_start text i → Ok (record { points = n; pairs = m }) ≡ ended n m (next_word text i)
  unfolding next_word
  ended_none l = rw (le-ltb (word_start text i) (length text) l)

-- ---- the parts of a figure
module _ (text : List ℕ) (n m i : ℕ) where
  pub tail_done : (j : ℕ) → read_all false text i (2 * m) ≡ Ok j → ended n m (next_word text j) ≡ tail_of text n m i
  unfolding tail_of
  tail_done j h = sym (ap (λ (x : Result ℕ Fault). on_all x (λ j. ended n m (next_word text j)) (λ a. Err a)) h)

  pub tail_fault : (a : Fault) → read_all false text i (2 * m) ≡ Err a → Err a ≡ tail_of text n m i
  unfolding tail_of
  tail_fault a h = sym (ap (λ (x : Result ℕ Fault). on_all x (λ j. ended n m (next_word text j)) (λ a. Err a)) h)

  module _ (xs : List ℤ) (ys : List ℕ) where
    pub rest_points : length xs < 2 * n → outcome (Err NoRoom) xs ys ≡ rest_of text n m i xs ys
    unfolding rest_of
    rest_points l = rw (lt-ltb (length xs) (2 * n) l)

    pub rest_pairs : length ys < 2 * m → outcome (Err NoRoom) xs ys ≡ rest_of text n m i xs ys
    unfolding rest_of
    rest_pairs l = by_test (ltb (length xs) (2 * n)) (λ h. rw h) (λ h. rw (h, lt-ltb (length ys) (2 * m) l))

    room : 2 * n ≤ length xs → 2 * m ≤ length ys → (x : Result ℕ Fault) → read_all true text i (2 * n) ≡ x →
        rest_of text n m i xs ys ≡ on_all x (λ j. outcome (tail_of text n m j) (put_points text i 0 (2 * n) xs) (put_pairs text j 0 (2 * m) ys))
        (λ a. outcome (Err a) (put_points text i 0 (2 * n) xs) ys)
    unfolding rest_of
    room l k x h = rw (le-ltb (length xs) (2 * n) l, le-ltb (length ys) (2 * m) k, h)

    pub rest_done : 2 * n ≤ length xs → 2 * m ≤ length ys → (j : ℕ) → read_all true text i (2 * n) ≡ Ok j →
        outcome (tail_of text n m j) (put_points text i 0 (2 * n) xs) (put_pairs text j 0 (2 * m) ys) ≡ rest_of text n m i xs ys
    rest_done l k j h = sym (room l k (Ok j) h)

    pub rest_fault : 2 * n ≤ length xs → 2 * m ≤ length ys → (a : Fault) → read_all true text i (2 * n) ≡ Err a → outcome (Err a) (put_points text i 0 (2 * n) xs) ys ≡ rest_of text n m i xs ys
    rest_fault l k a h = sym (room l k (Err a) h)

module _ (text : List ℕ) (xs : List ℤ) (ys : List ℕ) where
  abbrev number : ℕ → Result (ℕ × Number) Fault
  number i = entered unsigned (taken false (next_word text i))

  abbrev second : ℕ → ℕ → Outcome
  second n i = on_taken (taken false (next_word text i)) (λ minus m j. rest_of text n m j xs ys) (λ a. outcome (Err a) xs ys)

  pub figure_first : (a : Fault) → number 0 ≡ Err a → outcome (Err a) xs ys ≡ figure_of text xs ys
  unfolding figure_of
  figure_first a h = sym (on_stop unsigned (λ minus. second) (λ a. outcome (Err a) xs ys) (taken false (next_word text 0)) a h)

  one : (n : ℕ) (w : Number) → number 0 ≡ Ok (n, w) → figure_of text xs ys ≡ second n w.end
  unfolding figure_of
  one n w h = on_go unsigned second (λ a. outcome (Err a) xs ys) (taken false (next_word text 0)) n w h

  pub figure_second : (n : ℕ) (w : Number) → number 0 ≡ Ok (n, w) → (a : Fault) → number w.end ≡ Err a → outcome (Err a) xs ys ≡ figure_of text xs ys
  figure_second n w h a k =
      sym (one n w h ∙ on_stop unsigned (λ minus m j. rest_of text n m j xs ys) (λ a. outcome (Err a) xs ys) (taken false (next_word text w.end)) a k)

  pub figure_rest : (n : ℕ) (w : Number) → number 0 ≡ Ok (n, w) → (m : ℕ) (u : Number) → number w.end ≡ Ok (m, u) → rest_of text n m u.end xs ys ≡ figure_of text xs ys
  figure_rest n w h m u k =
      sym (one n w h ∙ on_go unsigned (λ m j. rest_of text n m j xs ys) (λ a. outcome (Err a) xs ys) (taken false (next_word text w.end)) m u k)

pub same_outcome : (a a' : Result Figure Fault) (xs xs' : List ℤ) (ys ys' : List ℕ) → a ≡ a' → xs ≡ xs' → ys ≡ ys' → outcome a xs ys ≡ outcome a' xs' ys'
same_outcome a a' xs xs' ys ys' p q r =
    ap (λ (x : Result Figure Fault). outcome x xs ys) p ∙ ap (λ (x : List ℤ). outcome a' x ys) q ∙ ap (λ (x : List ℕ). outcome a' xs' x) r
