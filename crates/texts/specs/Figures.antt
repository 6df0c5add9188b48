-- A figure as a text: n, m, then 2n coordinates, then 2m point numbers. Definitions only.
use Rattle.std.specs.Prelude.{Bool, true, false, cond, not, ◌||◌, List, ℕ, zero, suc, ◌*◌, eqb, ltb, leb, length, set, ℤ, pos, neg_ℤ, Option, Some, None, Result, Ok, Err}
use Rattle.texts.specs.Words.{next_word}
use Rattle.texts.specs.declared.Fault.{Fault}
use Rattle.texts.specs.declared.Fault.TheVariants.{NotANumber, DoesNotFit, TooFew, TooMany, NoRoom}
use Rattle.texts.specs.declared.Number.{Number}
use Rattle.texts.specs.declared.Figure.{Figure}

-- the number of the size n, below zero where it has a minus sign; and the size alone
abbrev pub signed : Bool → ℕ → ℤ
signed minus n = cond minus (neg_ℤ (pos n)) (pos n)

abbrev pub unsigned : Bool → ℕ → ℕ
unsigned minus n = n

-- a coordinate is at most 2,147,483,647 in size; any other number is not below zero
unfoldable pub allowed : Bool → Bool → ℕ → Bool
allowed coordinate minus n = cond coordinate (leb n 2147483647) (not minus || eqb n 0)

-- the number of a sign and a size where it may stand
abbrev pub entry_of : {X : Type 0} → Bool → (Bool → ℕ → X) → Bool → ℕ → Option X
entry_of coordinate value minus n = cond (allowed coordinate minus n) (Some (value minus n)) None

-- a word taken as a coordinate or as another number, or the fault
abbrev pub taken : Bool → Result (Option Number) Fault → Result Number Fault
taken coordinate (Ok None) = Err TooFew
taken coordinate (Ok (Some w)) = cond (allowed coordinate w.minus w.size) (Ok w) (Err (DoesNotFit w.start))
taken coordinate (Err a) = Err a

abbrev pub on_taken : {X : Type 0} → Result Number Fault → (Bool → ℕ → ℕ → X) → (Fault → X) → X
on_taken (Ok w) f g = f w.minus w.size w.end
on_taken (Err a) f g = g a

-- the number of that word, and the word
abbrev pub entered : {X : Type 0} → (Bool → ℕ → X) → Result Number Fault → Result (X × Number) Fault
entered value (Ok w) = Ok (value w.minus w.size, w)
entered value (Err a) = Err a

abbrev pub on_all : {X : Type 0} → Result ℕ Fault → (ℕ → X) → (Fault → X) → X
on_all (Ok i) f g = f i
on_all (Err a) f g = g a

-- k numbers from place i on: the place after them, or the first fault
unfoldable pub read_all : Bool → List ℕ → ℕ → ℕ → Result ℕ Fault
read_all coordinate text i zero = Ok i
read_all coordinate text i (suc k) = on_taken (taken coordinate (next_word text i)) (λ minus n e. read_all coordinate text e k) (λ a. Err a)

-- the list with those numbers at its places from p on, up to the first fault
unfoldable pub put_all : {X : Type 0} → Bool → (Bool → ℕ → X) → List ℕ → ℕ → ℕ → ℕ → List X → List X
put_all coordinate value text i p zero xs = xs
put_all coordinate value text i p (suc k) xs =
    on_taken (taken coordinate (next_word text i)) (λ minus n e. put_all coordinate value text e (suc p) k (set xs p (value minus n))) (λ a. xs)

abbrev pub put_points : List ℕ → ℕ → ℕ → ℕ → List ℤ → List ℤ
put_points = put_all true signed

abbrev pub put_pairs : List ℕ → ℕ → ℕ → ℕ → List ℕ → List ℕ
put_pairs = put_all false unsigned

-- what is answered, and what the two lists hold then
pub record Outcome : Type 0 where
  pub answer : Result Figure Fault
  pub points : List ℤ
  pub pairs : List ℕ

abbrev pub outcome : Result Figure Fault → List ℤ → List ℕ → Outcome
outcome a xs ys = record { answer = a; points = xs; pairs = ys }

-- no word follows a figure
abbrev pub ended : ℕ → ℕ → Result (Option Number) Fault → Result Figure Fault
ended n m (Ok None) = Ok (record { points = n; pairs = m })
ended n m (Ok (Some w)) = Err (TooMany w.start)
ended n m (Err (NotANumber start)) = Err (TooMany start)
ended n m (Err (DoesNotFit start)) = Err (TooMany start)
ended n m (Err a) = Err a

-- from place i on: the 2m point numbers, and the end
unfoldable pub tail_of : List ℕ → ℕ → ℕ → ℕ → Result Figure Fault
tail_of text n m i = on_all (read_all false text i (2 * m)) (λ j. ended n m (next_word text j)) (λ a. Err a)

-- from place i on: the 2n coordinates, the 2m point numbers, and the end
unfoldable pub rest_of : List ℕ → ℕ → ℕ → ℕ → List ℤ → List ℕ → Outcome
rest_of text n m i xs ys =
    cond (ltb (length xs) (2 * n) || ltb (length ys) (2 * m)) (outcome (Err NoRoom) xs ys)
    (on_all (read_all true text i (2 * n))
    (λ j. outcome (tail_of text n m j) (put_points text i 0 (2 * n) xs) (put_pairs text j 0 (2 * m) ys))
    (λ a. outcome (Err a) (put_points text i 0 (2 * n) xs) ys))

-- the whole text, read into the lists xs and ys
unfoldable pub figure_of : List ℕ → List ℤ → List ℕ → Outcome
figure_of text xs ys =
    on_taken (taken false (next_word text 0))
    (λ minus n i. on_taken (taken false (next_word text i)) (λ minus m j. rest_of text n m j xs ys) (λ a. outcome (Err a) xs ys))
    (λ a. outcome (Err a) xs ys)
