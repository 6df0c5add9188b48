-- What the definitions say of short texts. Assumes nothing.
use mathlib.Core.Path.{◌≡◌, refl}
use mathlib.Core.Bool.{true}
use mathlib.Core.List.{List, [], ◌∷◌}
use Prim.Native.Nat.{ℕ}
use lib.IntN.{pos, negsuc}
use Rattle.std.specs.Prelude.{Some, None, Ok, Err}
use Rattle.algebra.specs.Tests.{all_to}
use Rattle.texts.specs.Words.{is_space, is_black, is_digit, first, value_of, number_at, word_at, next_word}
use Rattle.texts.specs.Figures.{allowed, read_all, put_all, outcome, tail_of, rest_of, figure_of}
use Rattle.texts.specs.declared.Fault.TheVariants.{NotANumber, NoRoom}

-- a tab, then -12, then a newline
low : List ℕ
low = 9 ∷ 45 ∷ 49 ∷ 50 ∷ 10 ∷ []

a_number : next_word low 0 ≡ Ok (Some (record { minus = true; size = 12; start = 1; end = 4 }))
unfolding low is_space is_black is_digit first value_of number_at word_at next_word all_to
a_number = refl

the_end : next_word low 4 ≡ Ok None
unfolding low is_space is_black is_digit first value_of number_at word_at next_word all_to
the_end = refl

-- +1 is no number, and neither is a minus sign alone
plus : List ℕ
plus = 43 ∷ 49 ∷ 32 ∷ 45 ∷ []

no_plus : next_word plus 0 ≡ Err (NotANumber 0)
unfolding plus is_space is_black is_digit first value_of number_at word_at next_word all_to
no_plus = refl

no_minus : next_word plus 2 ≡ Err (NotANumber 3)
unfolding plus is_space is_black is_digit first value_of number_at word_at next_word all_to
no_minus = refl

-- 1 1 4 -7 0 0: one point and one pair
figure : List ℕ
figure = 49 ∷ 32 ∷ 49 ∷ 32 ∷ 52 ∷ 32 ∷ 45 ∷ 55 ∷ 32 ∷ 48 ∷ 32 ∷ 48 ∷ []

a_figure : figure_of figure (pos 9 ∷ pos 9 ∷ pos 9 ∷ []) (8 ∷ 8 ∷ 8 ∷ []) ≡ outcome (Ok (record { points = 1; pairs = 1 })) (pos 4 ∷ negsuc 6 ∷ pos 9 ∷ []) (0 ∷ 0 ∷ 8 ∷ [])
unfolding figure is_space is_black is_digit first value_of number_at word_at next_word all_to allowed read_all put_all tail_of rest_of figure_of
a_figure = refl

no_room : figure_of figure (pos 9 ∷ []) (8 ∷ 8 ∷ []) ≡ outcome (Err NoRoom) (pos 9 ∷ []) (8 ∷ 8 ∷ [])
unfolding figure is_space is_black is_digit first value_of number_at word_at next_word all_to allowed read_all put_all tail_of rest_of figure_of
no_room = refl
