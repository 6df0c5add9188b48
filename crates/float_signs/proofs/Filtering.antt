-- What the filter's tests tell of its answer, and the float formulas on whole coordinates. Assumes nothing.
use Rattle.std.proofs.Common.{Some, None, ◌≡◌, ℕ, zero, suc, ◌+◌, ◌*◌, ◌^◌, ◌≤◌, true, false, ℤ, pos, negsuc, ◌-ℤ◌, ◌*ℤ◌, nat_abs, sym, refl, ap, ◌∙◌, le_trans, add-le-add, mul-le-mul_right, mul-le-mul_left, arith, lit≤}
use lib.Ieee.{Float, fin, binary64, add, sub, mul, le, lt}
use lib.Ieee.Scale.{finite}
use Rattle.algebra.proofs.Size.{abs_sub}
use Rattle.plane.specs.Points.{Pt}
use Rattle.plane.specs.Determinants.{orient, incircle}
use Rattle.floats.specs.Whole.{Is, abs_f, min_positive}
use Rattle.floats.proofs.Exact.{size_is, add_is}
use Rattle.floats.proofs.Bounded.{In, diff, times, plus}
use Rattle.floats.proofs.Half.{Low, normal, not_normal, finite_is, low_below, low_not_below, product_low}
use Rattle.signs.specs.Signs.{sign_z, sign_f}
use Rattle.float_signs.specs.Filter.{WholePoint, certified, decided, orient_filter, det_left, det_right, circle_f}
use Rattle.float_signs.specs.declared.Vec2.{Vec2}
use Rattle.signs.proofs.Signed.{sign_is}

module _ (k det p : Float) where
  pub small : le min_positive p ≡ false → None ≡ certified k det p
  unfolding certified
  small h = rw h

  pub infinite : le min_positive p ≡ true → finite p ≡ false → None ≡ certified k det p
  unfolding certified
  infinite h i = rw (h, i)

  pub near : le min_positive p ≡ true → finite p ≡ true → lt (mul binary64 k p) (abs_f det) ≡ false → None ≡ certified k det p
  unfolding certified
  near h i j = rw (h, i, j)

  pub far : le min_positive p ≡ true → finite p ≡ true → lt (mul binary64 k p) (abs_f det) ≡ true → Some (sign_f det) ≡ certified k det p
  unfolding certified
  far h i j = rw (h, i, j)

-- ---- the filter on whole numbers
sure : (k det p : Float) (Z : ℤ) (z n : ℕ) → Is det Z → Is p (pos (suc n)) → nat_abs Z ≡ suc z → Low (mul binary64 k p) → certified k det p ≡ Some (sign_z Z)
sure k det p Z z n d i h b =
    sym (far k det p (normal p n i) (finite_is p (pos (suc n)) i) (low_below (mul binary64 k p) det Z z b d h)) ∙ ap Some (sign_is det Z d)

pub certified_exact : (K E : ℕ) (det p : Float) (Z : ℤ) (P : ℕ) → Is det Z → Is p (pos P) → nat_abs Z ≤ P → K * P * 2 ≤ 2 ^ suc E → certified (fin false K (negsuc E)) det p ≡ decided Z
unfolding decided
certified_exact K E det p (pos zero) zero d i s f = sym (small (fin false K (negsuc E)) det p (not_normal p i))
certified_exact K E det p (pos (suc z)) zero d i s f = absurd (omega arith)
certified_exact K E det p (negsuc z) zero d i s f = absurd (omega arith)
certified_exact K E det p (pos zero) (suc n) d i s f =
    sym (near (fin false K (negsuc E)) det p (normal p n i) (finite_is p (pos (suc n)) i) (low_not_below (mul binary64 (fin false K (negsuc E)) p) det (product_low K E p n i f) d))
certified_exact K E det p (pos (suc z)) (suc n) d i s f = sure (fin false K (negsuc E)) det p (pos (suc z)) z n d i refl (product_low K E p n i f)
certified_exact K E det p (negsuc z) (suc n) d i s f = sure (fin false K (negsuc E)) det p (negsuc z) z n d i refl (product_low K E p n i f)

ccw_few : (P : ℕ) → P ≤ 536870912 → 1688849860263937 * P * 2 ≤ 2 ^ 102
ccw_few P h = le_trans (mul-le-mul_right 2 (mul-le-mul_left 1688849860263937 h)) (lit≤ tt)

-- ---- whole points

x_in : {k : ℕ} {v : Vec2} {p : Pt ℤ} → WholePoint k v p → In v.x p.x k
x_in i = record { is = i.is_x; within = i.in_x }

y_in : {k : ℕ} {v : Vec2} {p : Pt ℤ} → WholePoint k v p → In v.y p.y k
y_in i = record { is = i.is_y; within = i.in_y }

pub orient_exact : (a b c : Vec2) (p q r : Pt ℤ) → WholePoint 8192 a p → WholePoint 8192 b q → WholePoint 8192 c r → orient_filter a b c ≡ decided (orient p q r)
unfolding orient_filter orient
orient_exact a b c p q r ia ib ic =
    let l = times (diff (x_in ia) (x_in ic) tt) (diff (y_in ib) (y_in ic) tt) tt in
    let m = times (diff (y_in ia) (y_in ic) tt) (diff (x_in ib) (x_in ic) tt) tt in
    let zl = (p.x -ℤ r.x) *ℤ (q.y -ℤ r.y) in
    let zr = (p.y -ℤ r.y) *ℤ (q.x -ℤ r.x) in
    let few = add-le-add l.within m.within in
    let s = add_is (abs_f (det_left a b c)) (abs_f (det_right a b c)) (pos (nat_abs zl)) (pos (nat_abs zr)) (size_is (det_left a b c) zl l.is)
    (size_is (det_right a b c) zr m.is) (le_trans few (lit≤ tt)) in
    certified_exact 1688849860263937 101 (sub binary64 (det_left a b c) (det_right a b c)) (add binary64 (abs_f (det_left a b c)) (abs_f (det_right a b c)))
    (zl -ℤ zr) (nat_abs zl + nat_abs zr) (diff l m tt).is s (abs_sub zl zr) (ccw_few (nat_abs zl + nat_abs zr) few)

pub circle_exact : (a b c d : Vec2) (p q r s : Pt ℤ) → WholePoint 2048 a p → WholePoint 2048 b q → WholePoint 2048 c r → WholePoint 2048 d s → Is (circle_f a b c d) (incircle p q r s)
unfolding circle_f incircle
circle_exact a b c d p q r s ia ib ic id =
    let adx = diff (x_in ia) (x_in id) tt in
    let ady = diff (y_in ia) (y_in id) tt in
    let bdx = diff (x_in ib) (x_in id) tt in
    let bdy = diff (y_in ib) (y_in id) tt in
    let cdx = diff (x_in ic) (x_in id) tt in
    let cdy = diff (y_in ic) (y_in id) tt in
    let alift = plus (times adx adx tt) (times ady ady tt) tt in
    let blift = plus (times bdx bdx tt) (times bdy bdy tt) tt in
    let clift = plus (times cdx cdx tt) (times cdy cdy tt) tt in
    (plus
    (plus
    (times alift (diff (times bdx cdy tt) (times cdx bdy tt) tt) tt)
    (times blift (diff (times cdx ady tt) (times adx cdy tt) tt) tt) tt)
    (times clift (diff (times adx bdy tt) (times bdx ady tt) tt) tt) tt).is
