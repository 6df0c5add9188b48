-- The words of a text and the numbers that they are. A text is its list of bytes. Definitions only.
use Rattle.std.specs.Prelude.{Bool, true, false, cond, not, ◌&&◌, ◌||◌, List, ℕ, zero, suc, ◌+◌, ◌-◌, ◌*◌, eqb, ltb, leb, length, get_or, Option, Some, None, Result, Ok, Err}
use Rattle.algebra.specs.Tests.{all_to}
use Rattle.texts.specs.declared.Fault.{Fault}
use Rattle.texts.specs.declared.Fault.TheVariants.{NotANumber, DoesNotFit}
use Rattle.texts.specs.declared.Number.{Number}

-- white space: the space, and from the tab to the carriage return (newline, vertical tab and form feed lie between them)
unfoldable pub is_space : ℕ → Bool
is_space b = eqb b 32 || (leb 9 b && leb b 13)

unfoldable pub is_black : ℕ → Bool
is_black b = not (is_space b)

-- from '0' to '9'
unfoldable pub is_digit : ℕ → Bool
is_digit b = leb 48 b && leb b 57

-- the first of the k places from i on whose byte passes; the place after them where none does
unfoldable pub first : (ℕ → Bool) → List ℕ → ℕ → ℕ → ℕ
first f text i zero = i
first f text i (suc k) = cond (f (get_or text i 0)) i (first f text (suc i) k)

-- where the next word starts, from place i on; where the word that starts at i ends, which is the place after its last byte
abbrev pub word_start : List ℕ → ℕ → ℕ
word_start text i = first is_black text i (length text - i)

abbrev pub word_end : List ℕ → ℕ → ℕ
word_end text i = first is_space text i (length text - i)

-- the k bytes from place i on are digits; the number that they are
abbrev pub all_digits : List ℕ → ℕ → ℕ → Bool
all_digits text i k = all_to k (λ j. is_digit (get_or text (i + j) 0))

unfoldable pub value_of : List ℕ → ℕ → ℕ → ℕ
value_of text i zero = 0
value_of text i (suc k) = 10 * value_of text i k + (get_or text (i + k) 0 - 48)

-- a number that is beyond the limit is as good as the limit and one
unfoldable pub capped : ℕ → ℕ
capped n = cond (leb n 4294967295) n 4294967296

unfoldable pub digits_of : List ℕ → ℕ → ℕ → Option ℕ
digits_of text i k = cond (all_digits text i k) (Some (capped (value_of text i k))) None

-- the word that starts at a place, whose digits are from place i to place e: one digit at least, and a size within the limit
unfoldable pub number_at : List ℕ → ℕ → Bool → ℕ → ℕ → Result Number Fault
number_at text start minus i e =
    cond (ltb i e && all_digits text i (e - i))
    (cond (leb (value_of text i (e - i)) 4294967295) (Ok (record { minus = minus; size = value_of text i (e - i); start = start; end = e })) (Err (DoesNotFit start)))
    (Err (NotANumber start))

-- the word from place start to place e: a minus sign or none, and digits
unfoldable pub word_at : List ℕ → ℕ → ℕ → Result Number Fault
word_at text start e = cond (eqb (get_or text start 0) 45) (number_at text start true (start + 1) e) (number_at text start false start e)

abbrev pub some : Result Number Fault → Result (Option Number) Fault
some (Ok w) = Ok (Some w)
some (Err a) = Err a

-- the first word from place i on, where there is one
unfoldable pub next_word : List ℕ → ℕ → Result (Option Number) Fault
next_word text i = cond (ltb (word_start text i) (length text)) (some (word_at text (word_start text i) (word_end text (word_start text i)))) (Ok None)
