-- What lies behind an edge: what each answer of the look at it says of the area. Assumes nothing.
use mathlib.Core.Bool.{false}
use mathlib.Core.List.{List}
use mathlib.Core.Path.{◌≡◌, refl, sym, ap, ◌∙◌, subst}
use Prim.Native.Nat.{ℕ, suc, ◌+◌, ◌-◌, ◌*◌, ◌/◌, ◌%◌, ◌≤◌, ◌<◌}
use native.Mathlib.Decide.{ℕ_discrete, dec_lt}
use native.Mathlib.Omega.{arith}
use borrow.Author.Tests.{eq-eqb, ne_eqb, lt-ltb, le-ltb}
use lib.IntN.{ℤ, pos, neg_ℤ}
use Rattle.algebra.specs.Order.{Pos}
use Rattle.algebra.specs.Tests.{posb}
use Rattle.algebra.proofs.Order.{not_both, not_zero, Sign, is_pos, is_below_zero, is_zero, sign}
use Rattle.algebra.proofs.Sum.{by_bool}
use Rattle.plane.proofs.Sign.{posb_yes, posb_pos}
use Rattle.plane.specs.Determinants.{orient}
use Rattle.plane.specs.Halfedges.{nxt}
use Rattle.plane.specs.Points.{Pt}
use Rattle.nets.specs.Nets.{prv}
use Rattle.cavities.specs.Corridors.{Three, t0, t1, t2}
use Rattle.chains.specs.Areas.{org, adj, con}
use Rattle.chains.specs.Scans.{left_of, right_of}
use Rattle.chains.specs.Walks.{met, look_at}
use Rattle.chains.specs.declared.Reason.{Reason}
use Rattle.chains.specs.declared.Reason.TheVariants.{NoNeighbour, Marked, Twice, OnLine, Apex}
use Rattle.chains.specs.declared.Beyond.{Beyond}
use Rattle.chains.specs.declared.Beyond.TheVariants.{Left, Right, Last}
use Rattle.std.specs.Prelude.{Result, Ok, Err}

-- ---- half-edges of a triangle

pub nxt_low : (h t : ℕ) → h < 3 * t → nxt h < 3 * t
unfolding nxt
nxt_low h t l = omega arith

pub prv_low : (h t : ℕ) → h < 3 * t → prv h < 3 * t
prv_low h t l = nxt_low (nxt h) t (nxt_low h t l)

pub nxt_third : (h : ℕ) → nxt h / 3 ≡ h / 3
unfolding nxt
nxt_third h = omega arith

pub prv_third : (h : ℕ) → prv h / 3 ≡ h / 3
prv_third h = nxt_third (nxt h) ∙ nxt_third h

pub three_of : (y : ℕ) → Three (y / 3) y (nxt y) (prv y)
unfolding nxt
three_of y = go (ℕ_discrete (y % 3) 0) (ℕ_discrete (y % 3) 1)
  where
    by : (s e f g e' f' g' : ℕ) → e ≡ e' → f ≡ f' → g ≡ g' → Three s e f g → Three s e' f' g'
    by s e f g e' f' g' p q r t = subst (λ (u : ℕ). Three s e' f' u) r (subst (λ (u : ℕ). Three s e' u g) q (subst (λ (u : ℕ). Three s u f g) p t))

    go : Dec (y % 3 ≡ 0) → Dec (y % 3 ≡ 1) → Three (y / 3) y (nxt y) (prv y)
    go (yes e) d = by (y / 3) (3 * (y / 3)) (3 * (y / 3) + 1) (3 * (y / 3) + 2) y (nxt y) (prv y) (omega arith) (omega arith) (omega arith) t0
    go (no e) (yes d) = by (y / 3) (3 * (y / 3) + 1) (3 * (y / 3) + 2) (3 * (y / 3)) y (nxt y) (prv y) (omega arith) (omega arith) (omega arith) t1
    go (no e) (no d) = by (y / 3) (3 * (y / 3) + 2) (3 * (y / 3)) (3 * (y / 3) + 1) y (nxt y) (prv y) (omega arith) (omega arith) (omega arith) t2

-- ---- what is seen

pub record Seen (t : ℕ) (w : List ℕ) (x y : ℕ) : Type 0 where
  pub mate : adj w x ≡ suc y
  pub plain : con w x ≡ 0
  pub low : y < 3 * t

module _ (P : ℕ → Pt ℤ) (t a b : ℕ) (w : List ℕ) (x : ℕ) where
  unfoldable pub Why : Reason → Type 0
  Why NoNeighbour = adj w x ≡ 0
  Why Marked = ¬ (con w x ≡ 0)
  Why Twice = 3 * t < adj w x
  Why OnLine = (y : ℕ) × Seen t w x y × (¬ (org w (prv y) ≡ b)) × (orient (P a) (P b) (P (org w (prv y))) ≡ pos 0)
  Why Apex = ⊥

  unfoldable pub Saw : Result Beyond Reason → Type 0
  Saw (Ok (Left y c)) = Seen t w x y × (org w (prv y) ≡ c) × Pos (orient (P a) (P b) (P c))
  Saw (Ok (Right y c)) = Seen t w x y × (org w (prv y) ≡ c) × Pos (neg_ℤ (orient (P a) (P b) (P c)))
  Saw (Ok (Last y)) = Seen t w x y × (org w (prv y) ≡ b)
  Saw (Err e) = Why e

  saw_met : (y c : ℕ) → org w (prv y) ≡ c → Seen t w x y → Saw (met P a b y c)
  unfolding Saw Why met left_of right_of
  saw_met y c o k = go (ℕ_discrete c b) (sign (orient (P a) (P b) (P c)))
    where
      not_pos : (z : ℤ) → (Pos z → ⊥) → posb z ≡ false
      not_pos z n = by_bool (posb z) (λ e. absurd (n (posb_pos z e))) (λ e. e)

      go : Dec (c ≡ b) → Sign (orient (P a) (P b) (P c)) → Saw (met P a b y c)
      go (yes e) s = let q : met P a b y c ≡ Ok (Last y) = simp (eq-eqb c b e) in subst Saw (sym q) (k, o ∙ e)
      go (no e) (is_pos p) = let q : met P a b y c ≡ Ok (Left y c) = simp (ne_eqb c b e, posb_yes (orient (P a) (P b) (P c)) p) in subst Saw (sym q) (k, o, p)
      go (no e) (is_below_zero p) =
          let q : met P a b y c ≡ Ok (Right y c) = simp (ne_eqb c b e, not_pos (orient (P a) (P b) (P c)) (λ u. not_both u p), posb_yes (neg_ℤ (orient (P a) (P b) (P c))) p) in
          subst Saw (sym q) (k, o, p)
      go (no e) (is_zero p) =
          let q : met P a b y c ≡ Err OnLine =
          simp (ne_eqb c b e, not_pos (orient (P a) (P b) (P c)) (λ u. not_zero u p), not_pos (neg_ℤ (orient (P a) (P b) (P c))) (λ u. not_zero u (ap neg_ℤ p))) in
          subst Saw (sym q) (y, k, (λ u. e (sym o ∙ u)), ap (λ (v : ℕ). orient (P a) (P b) (P v)) o ∙ p)

  -- WHAT AN ANSWER SAYS
  pub saw : Saw (look_at P t a b w x)
  unfolding Saw Why look_at
  saw = go (ℕ_discrete (adj w x) 0) (ℕ_discrete (con w x) 0) (dec_lt (3 * t) (adj w x))
    where
      go : Dec (adj w x ≡ 0) → Dec (con w x ≡ 0) → Dec (3 * t < adj w x) → Saw (look_at P t a b w x)
      go (yes e) f g = let q : look_at P t a b w x ≡ Err NoNeighbour = simp (eq-eqb (adj w x) 0 e) in subst Saw (sym q) e
      go (no e) (no f) g = let q : look_at P t a b w x ≡ Err Marked = simp (ne_eqb (adj w x) 0 e, ne_eqb (con w x) 0 f) in subst Saw (sym q) f
      go (no e) (yes f) (yes g) = let q : look_at P t a b w x ≡ Err Twice = simp (ne_eqb (adj w x) 0 e, eq-eqb (con w x) 0 f, lt-ltb (3 * t) (adj w x) g) in subst Saw (sym q) g
      go (no e) (yes f) (no g) =
          let l : adj w x ≤ 3 * t = omega arith in
          let q : look_at P t a b w x ≡ met P a b (adj w x - 1) (org w (prv (adj w x - 1))) = simp (ne_eqb (adj w x) 0 e, eq-eqb (con w x) 0 f, le-ltb (3 * t) (adj w x) l) in
          subst Saw (sym q) (saw_met (adj w x - 1) (org w (prv (adj w x - 1))) refl (record { mate = omega arith; plain = f; low = omega arith }))

  pub saw_left : (y c : ℕ) → look_at P t a b w x ≡ Ok (Left y c) → Seen t w x y × (org w (prv y) ≡ c) × Pos (orient (P a) (P b) (P c))
  unfolding Saw
  saw_left y c e = subst Saw e saw

  pub saw_right : (y c : ℕ) → look_at P t a b w x ≡ Ok (Right y c) → Seen t w x y × (org w (prv y) ≡ c) × Pos (neg_ℤ (orient (P a) (P b) (P c)))
  unfolding Saw
  saw_right y c e = subst Saw e saw

  pub saw_last : (y : ℕ) → look_at P t a b w x ≡ Ok (Last y) → Seen t w x y × (org w (prv y) ≡ b)
  unfolding Saw
  saw_last y e = subst Saw e saw

  pub saw_stuck : (e : Reason) → look_at P t a b w x ≡ Err e → Why e
  unfolding Saw
  saw_stuck e q = subst Saw q saw
