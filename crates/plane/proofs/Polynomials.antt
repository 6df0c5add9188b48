-- The determinants as polynomials, for the solver of crate algebra: an identity of points is one line, a test that computes.
-- Each `..E` here evaluates to its namesake of specs/, which the laws beside it see by computing. Assumes nothing.
use mathlib.Core.Path.{◌≡◌}
use mathlib.Core.List.{List, [], ◌∷◌}
use Prim.Native.Nat.{ℕ, ◌+◌, ◌*◌}
use lib.Dec.{T}
use lib.IntN.{ℤ}
use Rattle.algebra.proofs.Ring.{Expr, var, ◌⊕◌, ◌⊖◌, ◌⊗◌, eval, same, solve}
use Rattle.plane.specs.Points.{Pt}
use Rattle.plane.specs.Places.{Place}

abbrev pub PtE : Type 0
PtE = Pt Expr

abbrev pub minus_e : PtE → PtE → PtE
minus_e a d = record { x = a.x ⊖ d.x; y = a.y ⊖ d.y }

abbrev pub lift_e : PtE → Expr
lift_e p = p.x ⊗ p.x ⊕ p.y ⊗ p.y

abbrev pub orient_e : PtE → PtE → PtE → Expr
orient_e a b c = (a.x ⊖ c.x) ⊗ (b.y ⊖ c.y) ⊖ (a.y ⊖ c.y) ⊗ (b.x ⊖ c.x)

abbrev pub incircle₀E : PtE → PtE → PtE → Expr
incircle₀E a b c =
    lift_e a ⊗ (b.x ⊗ c.y ⊖ c.x ⊗ b.y) ⊕ lift_e b ⊗ (c.x ⊗ a.y ⊖ a.x ⊗ c.y) ⊕ lift_e c ⊗ (a.x ⊗ b.y ⊖ b.x ⊗ a.y)

abbrev pub incircle_e : PtE → PtE → PtE → PtE → Expr
incircle_e a b c d = incircle₀E (minus_e a d) (minus_e b d) (minus_e c d)

abbrev pub vol_e : PtE → PtE → PtE → Expr
vol_e a b c = (lift_e a ⊕ lift_e b ⊕ lift_e c) ⊗ orient_e a b c

abbrev pub line_e : PtE → PtE → Place Expr → Expr
line_e u v q = (u.y ⊖ v.y) ⊗ q.qx ⊕ (v.x ⊖ u.x) ⊗ q.qy ⊕ (u.x ⊗ v.y ⊖ u.y ⊗ v.x) ⊗ q.qw

-- ---- a law of two to five points

abbrev pub pt : ℕ → PtE
pt i = record { x = var (2 * i); y = var (2 * i + 1) }

abbrev pub flat : List (Pt ℤ) → List ℤ
flat [] = []
flat (p ∷ ps) = p.x ∷ p.y ∷ flat ps

abbrev pub on2 : (PtE → PtE → Expr) → Expr
on2 f = f (pt 0) (pt 1)

abbrev pub on3 : (PtE → PtE → PtE → Expr) → Expr
on3 f = f (pt 0) (pt 1) (pt 2)

abbrev pub on4 : (PtE → PtE → PtE → PtE → Expr) → Expr
on4 f = f (pt 0) (pt 1) (pt 2) (pt 3)

abbrev pub on5 : (PtE → PtE → PtE → PtE → PtE → Expr) → Expr
on5 f = f (pt 0) (pt 1) (pt 2) (pt 3) (pt 4)

pub by2 : (f g : PtE → PtE → Expr) → T (same (on2 f) (on2 g)) → (a b : Pt ℤ) → eval (on2 f) (flat (a ∷ b ∷ [])) ≡ eval (on2 g) (flat (a ∷ b ∷ []))
by2 f g t a b = solve (on2 f) (on2 g) (flat (a ∷ b ∷ [])) t

pub by3 : (f g : PtE → PtE → PtE → Expr) → T (same (on3 f) (on3 g)) → (a b c : Pt ℤ) → eval (on3 f) (flat (a ∷ b ∷ c ∷ [])) ≡ eval (on3 g) (flat (a ∷ b ∷ c ∷ []))
by3 f g t a b c = solve (on3 f) (on3 g) (flat (a ∷ b ∷ c ∷ [])) t

pub by4 : (f g : PtE → PtE → PtE → PtE → Expr) → T (same (on4 f) (on4 g)) → (a b c d : Pt ℤ) → eval (on4 f) (flat (a ∷ b ∷ c ∷ d ∷ [])) ≡ eval (on4 g) (flat (a ∷ b ∷ c ∷ d ∷ []))
by4 f g t a b c d = solve (on4 f) (on4 g) (flat (a ∷ b ∷ c ∷ d ∷ [])) t

pub by5 : (f g : PtE → PtE → PtE → PtE → PtE → Expr) → T (same (on5 f) (on5 g)) → (a b c d e : Pt ℤ) → eval (on5 f) (flat (a ∷ b ∷ c ∷ d ∷ e ∷ [])) ≡ eval (on5 g) (flat (a ∷ b ∷ c ∷ d ∷ e ∷ []))
by5 f g t a b c d e = solve (on5 f) (on5 g) (flat (a ∷ b ∷ c ∷ d ∷ e ∷ [])) t

-- ---- a law of a place and two to five points

abbrev pub q_e : Place Expr
q_e = record { qx = var 0; qy = var 1; qw = var 2 }

abbrev pub p_e : ℕ → PtE
p_e i = record { x = var (2 * i + 3); y = var (2 * i + 4) }

abbrev pub row : Place ℤ → List (Pt ℤ) → List ℤ
row q ps = q.qx ∷ q.qy ∷ q.qw ∷ flat ps

abbrev pub at2 : (Place Expr → PtE → PtE → Expr) → Expr
at2 f = f q_e (p_e 0) (p_e 1)

abbrev pub at3 : (Place Expr → PtE → PtE → PtE → Expr) → Expr
at3 f = f q_e (p_e 0) (p_e 1) (p_e 2)

abbrev pub at4 : (Place Expr → PtE → PtE → PtE → PtE → Expr) → Expr
at4 f = f q_e (p_e 0) (p_e 1) (p_e 2) (p_e 3)

abbrev pub at5 : (Place Expr → PtE → PtE → PtE → PtE → PtE → Expr) → Expr
at5 f = f q_e (p_e 0) (p_e 1) (p_e 2) (p_e 3) (p_e 4)

pub by_q2 : (f g : Place Expr → PtE → PtE → Expr) → T (same (at2 f) (at2 g)) → (q : Place ℤ) (a b : Pt ℤ) → eval (at2 f) (row q (a ∷ b ∷ [])) ≡ eval (at2 g) (row q (a ∷ b ∷ []))
by_q2 f g t q a b = solve (at2 f) (at2 g) (row q (a ∷ b ∷ [])) t

pub by_q3 : (f g : Place Expr → PtE → PtE → PtE → Expr) → T (same (at3 f) (at3 g)) → (q : Place ℤ) (a b c : Pt ℤ) → eval (at3 f) (row q (a ∷ b ∷ c ∷ [])) ≡ eval (at3 g) (row q (a ∷ b ∷ c ∷ []))
by_q3 f g t q a b c = solve (at3 f) (at3 g) (row q (a ∷ b ∷ c ∷ [])) t

pub by_q4 : (f g : Place Expr → PtE → PtE → PtE → PtE → Expr) → T (same (at4 f) (at4 g)) → (q : Place ℤ) (a b c d : Pt ℤ) →
    eval (at4 f) (row q (a ∷ b ∷ c ∷ d ∷ [])) ≡ eval (at4 g) (row q (a ∷ b ∷ c ∷ d ∷ []))
by_q4 f g t q a b c d = solve (at4 f) (at4 g) (row q (a ∷ b ∷ c ∷ d ∷ [])) t

pub by_q5 : (f g : Place Expr → PtE → PtE → PtE → PtE → PtE → Expr) → T (same (at5 f) (at5 g)) → (q : Place ℤ) (a b c d e : Pt ℤ) →
    eval (at5 f) (row q (a ∷ b ∷ c ∷ d ∷ e ∷ [])) ≡ eval (at5 g) (row q (a ∷ b ∷ c ∷ d ∷ e ∷ []))
by_q5 f g t q a b c d e = solve (at5 f) (at5 g) (row q (a ∷ b ∷ c ∷ d ∷ e ∷ [])) t
