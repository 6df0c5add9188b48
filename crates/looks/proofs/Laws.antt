-- The answers of the search, by what the code has read. Assumes nothing.
use mathlib.Core.Bool.{true, false, true≢false}
use mathlib.Core.List.{List}
use mathlib.Core.Logic.{inl, inr}
use mathlib.Core.Path.{◌≡◌, refl, sym, ap, ◌∙◌, subst}
use Prim.Native.Nat.{ℕ, zero, suc, ◌+◌, ◌*◌, ◌/◌, ◌%◌, ◌≤◌, ◌<◌}
use native.Mathlib.Decide.{ℕ_discrete}
use native.Mathlib.Omega.{arith}
use lib.IntN.{ℤ, neg_ℤ}
use lib.ListN.{length, get_or}
use Rattle.algebra.specs.Tests.{posb}
use Rattle.plane.specs.Determinants.{orient}
use Rattle.plane.specs.Halfedges.{nxt}
use Rattle.plane.specs.Points.{Pt}
use Rattle.plane.proofs.Sign.{posb_yes, posb_pos}
use Rattle.tables.specs.Data.{point_count, point, base}
use Rattle.tables.specs.Figures.{Figure}
use Rattle.nets.specs.Layout.{cell, net_of, InRange}
use Rattle.nets.specs.Nets.{Net, dst, prv}
use Rattle.nets.specs.Tilings.{Tiling}
use Rattle.nets.proofs.Slot.{nxt_in, nxt_three}
use Rattle.chains.specs.Sticking.{Leaves}
use Rattle.looks.specs.Around.{Ranged, Between, Names, Passed, Neither, Starts, Told}
use Rattle.looks.specs.declared.Around.{Around}
use Rattle.std.specs.Prelude.{Option, Some, None}

-- ---- half-edges by slot and edge

whole : (h : ℕ) → 3 * (h / 3) + h % 3 ≡ h
whole h = omega arith

next_is : (h : ℕ) → 3 * (h / 3) + (h % 3 + 1) % 3 ≡ nxt h
unfolding nxt
next_is h = refl

before_is : (h : ℕ) → 3 * (h / 3) + (h % 3 + 2) % 3 ≡ prv h
unfolding nxt
before_is h = omega arith

-- ---- what stands in the working area

place : (f t k x : ℕ) → k < 3 → 3 * t + k ≡ x → 16 * t + f + k ≡ cell f x
unfolding cell
place f t k x l e = omega arith

module _ (w : List ℕ) (T h : ℕ) where
  read : {i j : ℕ} → i ≡ j → get_or w i 0 ≡ get_or w j 0
  read e = ap (λ (i : ℕ). get_or w i 0) e

  pub org_is : get_or w (16 * (h / 3) + h % 3) 0 ≡ (net_of w T).org h
  unfolding net_of
  org_is = read (omega (arith, place 0 (h / 3) (h % 3) h (omega arith) (whole h)))

  pub next_org : get_or w (16 * (h / 3) + (h % 3 + 1) % 3) 0 ≡ (net_of w T).org (nxt h)
  unfolding net_of
  next_org = read (omega (arith, place 0 (h / 3) ((h % 3 + 1) % 3) (nxt h) (omega arith) (next_is h)))

  pub before_org : get_or w (16 * (h / 3) + (h % 3 + 2) % 3) 0 ≡ (net_of w T).org (prv h)
  unfolding net_of
  before_org = read (omega (arith, place 0 (h / 3) ((h % 3 + 2) % 3) (prv h) (omega arith) (before_is h)))

  pub adj_is : get_or w (16 * (h / 3) + 3 + h % 3) 0 ≡ (net_of w T).adj h
  unfolding net_of
  adj_is = read (place 3 (h / 3) (h % 3) h (omega arith) (whole h))

  pub before_adj : get_or w (16 * (h / 3) + 3 + (h % 3 + 2) % 3) 0 ≡ (net_of w T).adj (prv h)
  unfolding net_of
  before_adj = read (place 3 (h / 3) ((h % 3 + 2) % 3) (prv h) (omega arith) (before_is h))

-- ---- an answer that names something means the same whatever `None` means

pub named : (N O : Type 0) (P : ℕ → Pt ℤ) (m : Net) (a b : ℕ) (o : Option Around) → ¬ (o ≡ None) → Told N P m a b o → Told O P m a b o
named N O P m a b (Some r) k x = x
named N O P m a b None k x = absurd (k refl)

-- ---- one half-edge

module _ (P : ℕ → Pt ℤ) (w : List ℕ) (T a b h : ℕ) where
  abbrev m : Net
  m = net_of w T

  -- its start, its end and the third corner, as the code reads them
  abbrev p : ℕ
  p = get_or w (16 * (h / 3) + h % 3) 0

  abbrev u : ℕ
  u = get_or w (16 * (h / 3) + (h % 3 + 1) % 3) 0

  abbrev v : ℕ
  v = get_or w (16 * (h / 3) + (h % 3 + 2) % 3) 0

  pub elsewhere : ¬ (p ≡ a) → Passed P m a b h
  elsewhere n =
      let k : ¬ (m.org h ≡ a) = λ e. n (org_is w T h ∙ e) in
      record { to = λ e. absurd (k e); from = λ e. absurd (k e); across = λ e. absurd (k e) }

  module _ (l : h < 3 * T) (here : p ≡ a) where
    starts : m.org h ≡ a
    starts = sym (org_is w T h) ∙ here

    back : dst m (prv h) ≡ a
    back = ap m.org (nxt_three h) ∙ starts

    low : h / 3 < T
    low = omega arith

    pub to_b : u ≡ b → Names m (Between m a b) (h / 3) (h % 3)
    unfolding net_of
    to_b e = (low, omega arith, subst (Between m a b) (sym (whole h)) (inl (starts, sym (next_org w T h) ∙ e)))

    pub from_b : v ≡ b → Names m (Between m a b) (h / 3) ((h % 3 + 2) % 3)
    unfolding net_of
    from_b e = (low, omega arith, subst (Between m a b) (sym (before_is h)) (inr (sym (before_org w T h) ∙ e, back)))

    pub enters : posb (neg_ℤ (orient (P a) (P b) (P u))) ≡ true → posb (orient (P a) (P b) (P v)) ≡ true
        → Names m (Leaves P m a b) (h / 3) ((h % 3 + 1) % 3)
    unfolding net_of
    enters r s = (low, omega arith, subst (Leaves P m a b) (sym (next_is h)) entry)
      where
        entry : Leaves P m a b (nxt h)
        entry = record {
          low = nxt_in h T l;
          far = back;
          right = posb_pos _ (rw (next_org w T h) at r);
          left = posb_pos _ (rw (before_org w T h) at s);
        }

  module _ (nu : ¬ (u ≡ b)) (nv : ¬ (v ≡ b)) where
    across : ¬ Leaves P m a b (nxt h) → Passed P m a b h
    across n = record { to = λ _ e. nu (next_org w T h ∙ e); from = λ _ e. nv (before_org w T h ∙ e); across = λ _. n }

    pub not_right : posb (neg_ℤ (orient (P a) (P b) (P u))) ≡ false → Passed P m a b h
    not_right f = across (λ x. true≢false (sym (posb_yes (neg_ℤ (orient (P a) (P b) (P u))) (rw (next_org w T h) x.right)) ∙ f))

    pub not_left : posb (orient (P a) (P b) (P v)) ≡ false → Passed P m a b h
    not_left f = across (λ x. true≢false (sym (posb_yes (orient (P a) (P b) (P v)) (rw (before_org w T h) x.left)) ∙ f))

-- ---- numbers in range

module _ (ps : List ℤ) (w : List ℕ) (T h : ℕ) (ranged : Ranged ps T w) (l : h < 3 * T) where
  pub end_low : get_or w (16 * (h / 3) + (h % 3 + 1) % 3) 0 < point_count ps
  end_low = rw (next_org w T h) (ranged.corners (nxt h) (nxt_in h T l))

  pub third_low : get_or w (16 * (h / 3) + (h % 3 + 2) % 3) 0 < point_count ps
  third_low = rw (before_org w T h) (ranged.corners (prv h) (nxt_in (nxt h) T (nxt_in h T l)))

module _ (w : List ℕ) (T h : ℕ) (range : InRange T w) (l : h < 3 * T) where
  pub adj_low : get_or w (16 * (h / 3) + 3 + h % 3) 0 ≤ 3 * T
  adj_low = rw (adj_is w T h) (range.partners h l)

  pub before_low : get_or w (16 * (h / 3) + 3 + (h % 3 + 2) % 3) 0 ≤ 3 * T
  before_low = rw (before_adj w T h) (range.partners (prv h) (nxt_in (nxt h) T (nxt_in h T l)))

-- ---- all half-edges

module _ (P : ℕ → Pt ℤ) (w : List ℕ) (T a b : ℕ) where
  pub passed_on : (h : ℕ) → ((x : ℕ) → x < h → Passed P (net_of w T) a b x) → Passed P (net_of w T) a b h → (x : ℕ) → x < h + 1 → Passed P (net_of w T) a b x
  passed_on h f k x l = elim (ℕ_discrete x h) [ yes e ↦ subst (Passed P (net_of w T) a b) (sym e) k | no n ↦ f x (omega arith) ]

  pub none : (h : ℕ) → ¬ (h < 3 * T) → ((x : ℕ) → x < h → Passed P (net_of w T) a b x) → Neither P (net_of w T) a b
  unfolding net_of
  none h n f = record { no_edge = no_edge; no_entry = no_entry }
    where
      m : Net
      m = net_of w T

      no_edge : (x : ℕ) → x < 3 * T → ¬ Between m a b x
      no_edge x l (inl (i, j)) = (f x (omega arith)).to i j
      no_edge x l (inr (i, j)) = let k = nxt_in x T l in (f (nxt x) (omega arith)).from j (ap m.org (nxt_three x) ∙ i)

      no_entry : (x : ℕ) → ¬ Leaves P m a b x
      no_entry x e =
          let k = nxt_in (nxt x) T (nxt_in x T e.low) in
          (f (prv x) (omega arith)).across e.far (subst (Leaves P m a b) (sym (nxt_three x)) e)

-- ---- a corner of slot t was read

pub starts_at : (w : List ℕ) (T a t : ℕ) → t < T → (k : ℕ) → k < 3 → {p : ℕ} → p ≡ get_or w (16 * t + k) 0 → p ≡ a → Starts (net_of w T) a (Some (3 * t + k))
unfolding net_of
starts_at w T a t l k j e i = (omega arith, ap (λ (c : ℕ). get_or w c 0) (let z = place 0 t k (3 * t + k) j refl in let y : cell 0 (3 * t + k) ≡ 16 * t + k = omega arith in y) ∙ sym e ∙ i)

pub start_low : (w : List ℕ) (T a h : ℕ) {o : Option ℕ} → o ≡ Some h → Starts (net_of w T) a o → h < 3 * T
unfolding net_of
start_low w T a h e s = (rw e at s).0

-- ---- the tiling of a figure

-- each corner and each partner of a tiling is in range
pub ranged : (ps : List ℤ) (w : List ℕ) (T : ℕ) → Figure ps → Tiling (point ps) (base ps) (point_count ps) (net_of w T)
    → T + 5 ≤ 2 * point_count ps → 64 * point_count ps ≤ length w → Ranged ps T w
unfolding net_of
ranged ps w T figure tiling few room = record {
  range = record {
    corners = λ h l. let k = tiling.corners h l in omega arith;
    partners = λ h l. partner h l ((net_of w T).adj h) refl;
    room = omega arith;
    small = let k = figure.few in omega arith;
  };
  corners = tiling.corners;
  places = omega arith;
}
  where
    partner : (h : ℕ) → h < 3 * T → (g : ℕ) → (net_of w T).adj h ≡ g → g ≤ 3 * T
    partner h l zero e = omega arith
    partner h l (suc g) e = let k = tiling.linked.low h g l e in omega arith
