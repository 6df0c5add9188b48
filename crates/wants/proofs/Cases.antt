-- Step 3 by the cases of the code: a mark, no partner, the circle sign, and the ranks. Assumes nothing.
use mathlib.Core.Bool.{Bool, true, false, ◌&&◌}
use mathlib.Core.List.{List}
use mathlib.Core.Logic.{◌⊎◌, inl, inr}
use mathlib.Core.Path.{◌≡◌, refl, sym, ap, ◌∙◌, subst}
use Prim.Native.Nat.{ℕ, suc, ◌+◌, ◌-◌, ◌*◌, ◌/◌, ◌%◌, ◌<◌, ◌≤◌, min, max}
use native.Mathlib.Decide.{ℕ_discrete}
use native.Mathlib.Omega.{arith}
use borrow.Author.Tests.{lt-ltb, le-ltb, eq-eqb, ltb-true, eqb-true}
use lib.Dec.{ltb, eqb}
use lib.IntN.{ℤ, pos}
use lib.ListN.{length, get_or}
use Rattle.algebra.proofs.Order.{not_zero}
use Rattle.algebra.proofs.Sum.{by_bool}
use Rattle.algebra.specs.Order.{Pos}
use Rattle.algebra.specs.Tests.{posb, eq_z}
use Rattle.plane.proofs.Sign.{posb_yes, posb_pos, eq_z_eq}
use Rattle.plane.specs.Determinants.{incircle}
use Rattle.plane.specs.Halfedges.{nxt}
use Rattle.plane.specs.Points.{Pt}
use Rattle.signs.specs.Signs.{sign_z}
use Rattle.signs.specs.declared.Sign.{Sign}
use Rattle.signs.specs.declared.Sign.TheVariants as variants
use Rattle.tables.specs.Data.{point_count, point}
use Rattle.tables.specs.Figures.{Figure}
use Rattle.tables.specs.Rules.{rank, pair_below}
use Rattle.tables.proofs.Table.{true_t, near_list}
use Rattle.segments.specs.Near.{Near}
use Rattle.segments.proofs.SignTests.{pos_told, zero_told}
use Rattle.nets.specs.Flipping.{Wants, Lower, by_first, by_second}
use Rattle.nets.specs.Layout.{cell, net_of, rank_cell}
use Rattle.nets.specs.Nets.{Net, prv}
use Rattle.nets.proofs.Plain.{wanted}
use Rattle.nets.proofs.Slot.{nxt_in, nxt_slot}
use Rattle.std.specs.Prelude.{Some, None}
use Rattle.wants.specs.Tries.{Ready, Tried, flips, rests, First}

-- ---- rank pairs

below_yes : (rk : ℕ → ℕ) (u v p q : ℕ) → pair_below (rk u) (rk v) (rk p) (rk q) ≡ true → Lower rk u v p q
below_yes rk u v p q t = by_bool (ltb (min (rk u) (rk v)) (min (rk p) (rk q))) (λ l. by_first (ltb-true (min (rk u) (rk v)) (min (rk p) (rk q)) l)) second
  where
    and_1 : (a b : Bool) → (a && b) ≡ true → a ≡ true
    and_1 true b e = refl
    and_1 false b e = e

    and_2 : (a b : Bool) → (a && b) ≡ true → b ≡ true
    and_2 true b e = e
    and_2 false b e = absurd (let z : ◌≡◌ {A = ℕ} 0 1 = cc in let f : ⊥ = omega arith in f)

    second : ltb (min (rk u) (rk v)) (min (rk p) (rk q)) ≡ false → Lower rk u v p q
    second f =
        let s : (eqb (min (rk u) (rk v)) (min (rk p) (rk q)) && ltb (max (rk u) (rk v)) (max (rk p) (rk q))) ≡ true = rw f at t in
        by_second (eqb-true (min (rk u) (rk v)) (min (rk p) (rk q)) (and_1 (eqb (min (rk u) (rk v)) (min (rk p) (rk q))) (ltb (max (rk u) (rk v)) (max (rk p) (rk q))) s))
        (ltb-true (max (rk u) (rk v)) (max (rk p) (rk q)) (and_2 (eqb (min (rk u) (rk v)) (min (rk p) (rk q))) (ltb (max (rk u) (rk v)) (max (rk p) (rk q))) s))

below_no : (rk : ℕ → ℕ) (u v p q : ℕ) → pair_below (rk u) (rk v) (rk p) (rk q) ≡ false → ¬ Lower rk u v p q
below_no rk u v p q f (by_first l) = let z : true ≡ false = rw (lt-ltb (min (rk u) (rk v)) (min (rk p) (rk q)) l) at f in let y : ◌≡◌ {A = ℕ} 0 1 = cc in omega arith
below_no rk u v p q f (by_second e l) =
    let z : true ≡ false = rw (
      le-ltb (min (rk u) (rk v)) (min (rk p) (rk q)) (let k : min (rk p) (rk q) ≤ min (rk u) (rk v) = omega arith in k),
      eq-eqb (min (rk u) (rk v)) (min (rk p) (rk q)) e,
      lt-ltb (max (rk u) (rk v)) (max (rk p) (rk q)) l,
    ) at f in
    let y : ◌≡◌ {A = ℕ} 0 1 = cc in omega arith

-- ---- the circle sign

sign_pos : (z : ℤ) {s : Sign} → s ≡ sign_z z → s ≡ variants.Pos → Pos z
sign_pos z e h = posb_pos z (sym (pos_told z e (rw h)))

sign_zero : (z : ℤ) {s : Sign} → s ≡ sign_z z → s ≡ variants.Zero → z ≡ pos 0
sign_zero z e h = eq_z_eq z (pos 0) (true_t (sym (zero_told z e (rw h))))

sign_neg : (z : ℤ) {s : Sign} → s ≡ sign_z z → s ≡ variants.Neg → (¬ Pos z) × (¬ (z ≡ pos 0))
sign_neg z e h = (
  λ p. let f : false ≡ posb z = pos_told z e (rw h) in let t : posb z ≡ true = posb_yes z p in let y : ◌≡◌ {A = ℕ} 0 1 = cc in let x : ⊥ = omega arith in x,
  λ i. let f : false ≡ eq_z z (pos 0) = zero_told z e (rw h) in let t : eq_z z (pos 0) ≡ true = rw i in let y : ◌≡◌ {A = ℕ} 0 1 = cc in let x : ⊥ = omega arith in x,
)

-- ---- the places

place : (t e f : ℕ) → e < 3 → cell f (3 * t + e) ≡ 16 * t + f + e
unfolding cell
place t e f b = omega arith

place_nxt : (u : ℕ) → cell 0 (nxt u) ≡ 16 * (u / 3) + (u % 3 + 1) % 3
unfolding cell nxt
place_nxt u = omega arith

nxt_rem : (h : ℕ) → nxt h % 3 ≡ (h % 3 + 1) % 3
unfolding nxt
nxt_rem h = omega arith

pub place_prv : (h : ℕ) → cell 0 (prv h) ≡ 16 * (h / 3) + (h + 2) % 3
place_prv h = let p = place_nxt (nxt h) in let a = nxt_slot h in let b = nxt_rem h in omega arith

place_1 : (t e : ℕ) → e < 3 → cell 0 (nxt (3 * t + e)) ≡ 16 * t + (e + 1) % 3
place_1 t e b = let p = place_nxt (3 * t + e) in omega arith

place_2 : (t e : ℕ) → e < 3 → cell 0 (prv (3 * t + e)) ≡ 16 * t + (e + 2) % 3
place_2 t e b = let p = place_prv (3 * t + e) in omega arith

-- ---- an edge of a slot

module _ (ps : List ℤ) (count : ℕ) (w : List ℕ) (figure : Figure ps) (ready : Ready ps count w) (t e : ℕ) (tl : t < count) (el : e < 3) where
  abbrev n : ℕ
  n = point_count ps

  abbrev m : Net
  m = net_of w count

  abbrev h : ℕ
  h = 3 * t + e

  abbrev read : ℕ → ℕ
  read i = get_or w i 0

  hb : h < 3 * count
  hb = omega arith

  mark_at : m.con h ≡ read (16 * t + 6 + e)
  unfolding net_of
  mark_at = ap read (place t e 6 el)

  partner_at : m.adj h ≡ read (16 * t + 3 + e)
  unfolding net_of
  partner_at = ap read (place t e 3 el)

  from_at : m.org h ≡ read (16 * t + e)
  unfolding net_of
  from_at = ap read (place t e 0 el ∙ (let z : 16 * t + 0 + e ≡ 16 * t + e = omega arith in z))

  to_at : m.org (nxt h) ≡ read (16 * t + (e + 1) % 3)
  unfolding net_of
  to_at = ap read (place_1 t e el)

  third_at : m.org (prv h) ≡ read (16 * t + (e + 2) % 3)
  unfolding net_of
  third_at = ap read (place_2 t e el)

  abbrev Answer : Bool → Type 0
  Answer b = Tried (point ps) (rank ps) m h b

  pub marked : {r : ℕ} → r ≡ read (16 * t + 6 + e) → ¬ (r ≡ 0) → Answer false
  marked i k = rests (λ g u. k (i ∙ sym mark_at ∙ u.free))

  pub single : {r : ℕ} → r ≡ read (16 * t + 3 + e) → r ≡ 0 → Answer false
  single {r} i k = rests (λ g u. let z : 0 ≡ suc g = sym k ∙ i ∙ sym partner_at ∙ u.pair in let y : ⊥ = omega arith in y)

  -- with a partner
  module _ {o p : ℕ} (om : o ≡ read (16 * t + 6 + e)) (ok : o ≡ 0) (pm : p ≡ read (16 * t + 3 + e)) (pk : ¬ (p ≡ 0)) where
    abbrev g : ℕ
    g = p - 1

    free : m.con h ≡ 0
    free = mark_at ∙ sym om ∙ ok

    pair : m.adj h ≡ suc g
    pair = partner_at ∙ sym pm ∙ (let z : p ≡ suc (p - 1) = omega arith in z)

    gb : g < 3 * count
    unfolding net_of
    gb = ready.tiling.linked.low h g hb pair

    same_g : (x : ℕ) → m.adj h ≡ suc x → g ≡ x
    same_g x i = let z : suc g ≡ suc x = sym pair ∙ i in omega arith

    pub far_in : (g < 24576) × (16 * (g / 3) + 16 ≤ length w)
    far_in = let l = gb in let a = ready.few in let b = figure.few in let r = ready.room in (omega arith, omega arith)

    -- the four corners
    module _ {a b c d : ℕ} (ia : a ≡ read (16 * t + e)) (ib : b ≡ read (16 * t + (e + 1) % 3)) (ic : c ≡ read (16 * t + (e + 2) % 3)) (id : d ≡ read (cell 0 (prv g))) where
      is_a : m.org h ≡ a
      is_a = from_at ∙ sym ia

      is_b : m.org (nxt h) ≡ b
      is_b = to_at ∙ sym ib

      is_c : m.org (prv h) ≡ c
      is_c = third_at ∙ sym ic

      is_d : m.org (prv g) ≡ d
      unfolding net_of
      is_d = sym id

      low : (x y : ℕ) → x < 3 * count → m.org x ≡ y → y < n
      unfolding net_of
      low x y l i = subst (λ (z : ℕ). z < n) i (ready.tiling.corners x l)

      corners_in : (a < n) × (b < n) × (c < n) × (d < n)
      corners_in = (
        low h a hb is_a,
        low (nxt h) b (nxt_in h count hb) is_b,
        low (prv h) c (nxt_in (nxt h) count (nxt_in h count hb)) is_c,
        low (prv g) d (nxt_in (nxt g) count (nxt_in g count gb)) is_d,
      )

      ranks_in : (16 * c + 16 ≤ length w) × (16 * d + 16 ≤ length w) × (16 * a + 16 ≤ length w) × (16 * b + 16 ≤ length w)
      ranks_in = let l = corners_in in let r = ready.room in let x = l.0 in let y = l.1 in let z = l.2 in let v = l.3 in (omega arith, omega arith, omega arith, omega arith)

      abbrev circle : ℕ → ℕ → ℕ → ℕ → ℤ
      circle a b c d = incircle (point ps a) (point ps b) (point ps c) (point ps d)

      abbrev Gain : ℕ → ℕ → ℕ → ℕ → Type 0
      Gain a b c d = Pos (circle a b c d) ⊎ ((circle a b c d ≡ pos 0) × Lower (rank ps) c d a b)

      to_corners : Gain (m.org h) (m.org (nxt h)) (m.org (prv h)) (m.org (prv g)) → Gain a b c d
      to_corners s = rw (is_a, is_b, is_c, is_d) at s

      of_corners : Gain a b c d → Gain (m.org h) (m.org (nxt h)) (m.org (prv h)) (m.org (prv g))
      of_corners s = rw (is_a, is_b, is_c, is_d) s

      yes_by : Gain a b c d → Answer true
      unfolding net_of
      yes_by s = flips g (wanted ready.tiling (rank ps) h g hb pair free (of_corners s))

      no_by : ¬ Gain a b c d → Answer false
      no_by k = rests (λ x u. k (to_corners (subst (λ (y : ℕ). Gain (m.org h) (m.org (nxt h)) (m.org (prv h)) (m.org (prv y))) (sym (same_g x u.pair)) u.gain)))

      module _ {s : Sign} (is : s ≡ sign_z (circle a b c d)) where
        inside : s ≡ variants.Pos → Answer true
        inside k = yes_by (inl (sign_pos (circle a b c d) is k))

        outside : s ≡ variants.Neg → Answer false
        outside k = let x = sign_neg (circle a b c d) is k in no_by (λ u. elim u [ inl p ↦ x.0 p | inr p ↦ x.1 p.0 ])

        on_circle : s ≡ variants.Zero → {r : Bool} → r ≡ pair_below (read (rank_cell c)) (read (rank_cell d)) (read (rank_cell a)) (read (rank_cell b)) → Answer r
        on_circle k {r} i =
            by_bool r
            (λ y. subst Answer (sym y) (yes_by (inr (sign_zero (circle a b c d) is k, below_yes (rank ps) c d a b (sym by_ranks ∙ y)))))
            (λ y. subst Answer (sym y) (no_by (λ u. elim u [ inl p ↦ not_pos (circle a b c d) (sign_zero (circle a b c d) is k) p | inr p ↦ below_no (rank ps) c d a b (sym by_ranks ∙ y) p.1 ])))
          where
            not_pos : (z : ℤ) → z ≡ pos 0 → ¬ Pos z
            not_pos z q p = not_zero p q

            by_ranks : r ≡ pair_below (rank ps c) (rank ps d) (rank ps a) (rank ps b)
            by_ranks =
                let l = corners_in in
                i ∙ rw (ready.ranks c l.2, ready.ranks d l.3, ready.ranks a l.0, ready.ranks b l.1)

-- what the code has read by the time it asks for the circle sign
pub record Seen (ps : List ℤ) (count : ℕ) (w : List ℕ) (t e o p a b c d : ℕ) : Type 0 where
  pub figure : Figure ps
  pub ready : Ready ps count w
  pub t_low : t < count
  pub e_low : e < 3
  pub mark : o ≡ get_or w (16 * t + 6 + e) 0
  pub free : o ≡ 0
  pub partner : p ≡ get_or w (16 * t + 3 + e) 0
  pub paired : ¬ (p ≡ 0)
  pub first : a ≡ get_or w (16 * t + e) 0
  pub second : b ≡ get_or w (16 * t + (e + 1) % 3) 0
  pub third : c ≡ get_or w (16 * t + (e + 2) % 3) 0
  pub far : d ≡ get_or w (cell 0 (prv (p - 1))) 0

module _ {ps : List ℤ} {count : ℕ} {w : List ℕ} {t e o p a b c d : ℕ} (v : Seen ps count w t e o p a b c d) where
  pub seen_near : Near ps
  seen_near = near_list ps v.figure.even v.figure.near

  pub seen_corners : (a < point_count ps) × (b < point_count ps) × (c < point_count ps) × (d < point_count ps)
  seen_corners = corners_in ps count w v.figure v.ready t e v.t_low v.e_low v.mark v.free v.partner v.paired v.first v.second v.third v.far

  pub seen_ranks : (16 * c + 16 ≤ length w) × (16 * d + 16 ≤ length w) × (16 * a + 16 ≤ length w) × (16 * b + 16 ≤ length w)
  seen_ranks = ranks_in ps count w v.figure v.ready t e v.t_low v.e_low v.mark v.free v.partner v.paired v.first v.second v.third v.far

  module _ {s : Sign} (i : s ≡ sign_z (incircle (point ps a) (point ps b) (point ps c) (point ps d))) where
    pub seen_inside : s ≡ variants.Pos → Tried (point ps) (rank ps) (net_of w count) (3 * t + e) true
    seen_inside = inside ps count w v.figure v.ready t e v.t_low v.e_low v.mark v.free v.partner v.paired v.first v.second v.third v.far i

    pub seen_outside : s ≡ variants.Neg → Tried (point ps) (rank ps) (net_of w count) (3 * t + e) false
    seen_outside = outside ps count w v.figure v.ready t e v.t_low v.e_low v.mark v.free v.partner v.paired v.first v.second v.third v.far i

    pub seen_tied : s ≡ variants.Zero → {r : Bool} → r ≡ pair_below (get_or w (rank_cell c) 0) (get_or w (rank_cell d) 0) (get_or w (rank_cell a) 0)
        (get_or w (rank_cell b) 0) → Tried (point ps) (rank ps) (net_of w count) (3 * t + e) r
    seen_tied k j = on_circle ps count w v.figure v.ready t e v.t_low v.e_low v.mark v.free v.partner v.paired v.first v.second v.third v.far i k j

-- ---- the three edges of a slot

module _ (P : ℕ → Pt ℤ) (rk : ℕ → ℕ) (m : Net) (t : ℕ) where
  abbrev Flips : ℕ → Type 0
  Flips e = (g : ℕ) × Wants P rk m (3 * t + e) g

  abbrev Rests : ℕ → Type 0
  Rests e = (g : ℕ) → ¬ Wants P rk m (3 * t + e) g

  told_yes : (e : ℕ) {b : Bool} → Tried P rk m (3 * t + e) b → b ≡ true → Flips e
  told_yes e (flips x u) i = (x, u)
  told_yes e (rests f) i = absurd (let z : ◌≡◌ {A = ℕ} 0 1 = cc in let f : ⊥ = omega arith in f)

  told_no : (e : ℕ) {b : Bool} → Tried P rk m (3 * t + e) b → b ≡ false → Rests e
  told_no e (flips x u) i = absurd (let z : ◌≡◌ {A = ℕ} 0 1 = cc in let f : ⊥ = omega arith in f)
  told_no e (rests f) i = f

  -- what is known of the half-edges before edge e of the slot
  abbrev Before : ℕ → Type 0
  Before e = (x y : ℕ) → x < 3 * t + e → x / 3 ≡ t → ¬ Wants P rk m x y

  before_0 : Before 0
  before_0 x y l i u = let z : ⊥ = omega arith in z

  before_more : (e : ℕ) → Before e → Rests e → Before (suc e)
  before_more e b n x y l i u =
      elim (ℕ_discrete x (3 * t + e)) [ yes q ↦ n y (subst (λ (z : ℕ). Wants P rk m z y) q u) | no q ↦ b x y (let z : x < 3 * t + e = omega arith in z) i u ]

  first_yes : (e : ℕ) → e < 3 → Before e → Flips e → First P rk m t (Some e)
  first_yes e l b f = First.edge e f.0 l f.1 b

  module _ {b0 : Bool} (r0 : Tried P rk m (3 * t + 0) b0) where
    pub edge_0 : b0 ≡ true → First P rk m t (Some 0)
    edge_0 i = first_yes 0 (omega arith) before_0 (told_yes 0 r0 i)

    module _ (i0 : b0 ≡ false) {b1 : Bool} (r1 : Tried P rk m (3 * t + 1) b1) where
      before_1 : Before 1
      before_1 = before_more 0 before_0 (told_no 0 r0 i0)

      pub edge_1 : b1 ≡ true → First P rk m t (Some 1)
      edge_1 i = first_yes 1 (omega arith) before_1 (told_yes 1 r1 i)

      module _ (i1 : b1 ≡ false) {b2 : Bool} (r2 : Tried P rk m (3 * t + 2) b2) where
        before_2 : Before 2
        before_2 = before_more 1 before_1 (told_no 1 r1 i1)

        pub edge_2 : b2 ≡ true → First P rk m t (Some 2)
        edge_2 i = first_yes 2 (omega arith) before_2 (told_yes 2 r2 i)

        pub edge_none : b2 ≡ false → First P rk m t None
        edge_none i2 = First.none (λ x y j. before_more 2 before_2 (told_no 2 r2 i2) x y (let z : x < 3 * t + 3 = omega arith in z) j)
