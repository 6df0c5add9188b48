-- These tests compute, and each is shown to hold exactly where a statement does. They serve a rule that is to be computed of a list, and a
-- search. Assumes nothing.
use mathlib.Core.Path.{◌≡◌, subst}
use mathlib.Core.Bool.{Bool, true, false, not, ◌&&◌, ◌||◌}
use mathlib.Core.Logic.{◌⊎◌, inl, inr}
use Prim.Native.Nat.{ℕ, zero, suc, ◌<◌}
use native.Mathlib.Nat.{not-suc-le-zero}
use native.Mathlib.Decide.{dec_lt}
use native.Mathlib.Omega.{arith}
use lib.Dec.{T, eqb, eqb→eq, eqb_refl}
use lib.IntN.{ℤ}
use lib.Signed.{lt_z_yes}
use Rattle.algebra.specs.Order.{Pos}
use Rattle.algebra.specs.Tests.{posb, eq_z, all_to, any_to}
use Rattle.plane.proofs.Sign.{eq_z_eq, eq_z_refl}

-- The test holds exactly where the statement does.
pub record Reads (b : Bool) (A : Type 0) : Type 0 where
  pub says : T b → A
  pub shows : A → T b

pub decided : {b : Bool} {A : Type 0} → Reads b A → Dec A
decided {b = true} r = yes (r.says tt)
decided {b = false} r = no r.shows

-- The statement may be put in other words.
pub reads_as : {b : Bool} {A B : Type 0} → Reads b A → (A → B) → (B → A) → Reads b B
reads_as r f g = record { says = λ t. f (r.says t); shows = λ y. r.shows (g y) }

-- ---- numbers

pub reads_eq : (m n : ℕ) → Reads (eqb m n) (m ≡ n)
reads_eq m n = record { says = eqb→eq m n; shows = λ e. subst (λ (k : ℕ). T (eqb m k)) e (eqb_refl m) }

pub reads_eq_z : (a b : ℤ) → Reads (eq_z a b) (a ≡ b)
reads_eq_z a b = record { says = eq_z_eq a b; shows = λ e. subst (λ (z : ℤ). T (eq_z a z)) e (eq_z_refl a) }

pub reads_pos : (z : ℤ) → Reads (posb z) (Pos z)
reads_pos z = record { says = lt_z_yes; shows = λ p. p.lt }

-- ---- and, or, if

pub reads_and : {a b : Bool} {A B : Type 0} → Reads a A → Reads b B → Reads (a && b) (A × B)
reads_and {a = true} r s = record { says = λ t. (r.says tt, s.says t); shows = λ p. s.shows p.1 }
reads_and {a = false} r s = record { says = λ t. absurd t; shows = λ p. r.shows p.0 }

pub reads_or : {a b : Bool} {A B : Type 0} → Reads a A → Reads b B → Reads (a || b) (A ⊎ B)
reads_or {a = true} r s = record { says = λ t. inl (r.says tt); shows = λ p. tt }
reads_or {a = false} r s = record { says = λ t. inr (s.says t); shows = elim [ inl x ↦ absurd (r.shows x) | inr y ↦ s.shows y ] }

pub reads_if : {a b : Bool} {A B : Type 0} → Reads a A → Reads b B → Reads (not a || b) (A → B)
reads_if {a = true} r s = record { says = λ t x. s.says t; shows = λ f. s.shows (f (r.says tt)) }
reads_if {a = false} r s = record { says = λ t x. absurd (r.shows x); shows = λ f. tt }

pub reads_not : {a : Bool} {A : Type 0} → Reads a A → Reads (not a) (¬ A)
reads_not {a = true} r = record { says = λ t. absurd t; shows = λ f. f (r.says tt) }
reads_not {a = false} r = record { says = λ t x. r.shows x; shows = λ f. tt }

-- ---- every number below n, and some number below n

pub reads_all : (n : ℕ) {f : ℕ → Bool} {A : ℕ → Type 0} → ((i : ℕ) → Reads (f i) (A i)) → Reads (all_to n f) ((i : ℕ) → i < n → A i)
unfolding all_to
reads_all zero r = record { says = λ t i l. absurd (not-suc-le-zero l); shows = λ h. tt }
reads_all (suc n) {f} {A} r =
    reads_as (reads_and (reads_all n r) (r n)) (λ p i l. last p i l (dec_lt i n)) (λ h. (λ i l. h i (omega arith), h n (omega arith)))
  where
    last : ((i : ℕ) → i < n → A i) × A n → (i : ℕ) → i < suc n → Dec (i < n) → A i
    last p i l (yes k) = p.0 i k
    last p i l (no k) = let q : n ≡ i = omega arith in subst A q p.1

pub reads_any : (n : ℕ) {f : ℕ → Bool} {A : ℕ → Type 0} → ((i : ℕ) → Reads (f i) (A i)) → Reads (any_to n f) ((i : ℕ) × (i < n) × A i)
unfolding any_to
reads_any zero r = record { says = λ t. absurd t; shows = λ h. absurd (not-suc-le-zero h.1) }
reads_any (suc n) {f} {A} r = reads_as (reads_or (reads_any n r) (r n)) found (λ h. split h.0 h.1 h.2 (dec_lt h.0 n))
  where
    found : ((i : ℕ) × (i < n) × A i) ⊎ A n → (i : ℕ) × (i < suc n) × A i
    found (inl h) = let l = h.1 in (h.0, omega arith, h.2)
    found (inr x) = (n, omega arith, x)

    split : (i : ℕ) → i < suc n → A i → Dec (i < n) → ((i : ℕ) × (i < n) × A i) ⊎ A n
    split i l x (yes k) = inl (i, k, x)
    split i l x (no k) = let q : i ≡ n = omega arith in inr (subst A q x)
