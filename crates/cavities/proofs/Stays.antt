-- A half-edge of a triangle that is not crossed stays as it was, but for its partner. Each small change is shown to keep it, where the
-- numbers that the change names are off; then the walk, the arrival and the filling of both sides. Assumes nothing.
use mathlib.Core.Path.{◌≡◌, sym, ◌∙◌, subst}
use Prim.Native.Nat.{ℕ, suc, ◌+◌, ◌*◌, ◌≤◌, ◌<◌}
use native.Mathlib.Decide.{ℕ_discrete}
use native.Mathlib.Omega.{arith}
use Rattle.cavities.specs.Changes.{Same, Wrote, Joined, Dropped, Parked, Moved, ren}
use Rattle.cavities.specs.Closings.{Closing}
use Rattle.cavities.specs.Corridors.{In, Figure, Walk, start, left, right, Arrive}
use Rattle.cavities.specs.Fillings.{Fill, gap, node}
use Rattle.cavities.specs.Nets.{Net, Live}
use Rattle.cavities.specs.Traces.{Kin, still, both, Stays}
use Rattle.cavities.proofs.Fill.{fill_part, fill_slots, is0, le_self, lt0, lt1, lt2}
use Rattle.cavities.proofs.Steps.{ren_yes, ren_no}
use Rattle.cavities.proofs.Strip.{parts}

kin_trans : {Off : ℕ → Type 0} {a b c : ℕ} → Kin Off a b → Kin Off b c → Kin Off a c
kin_trans (still e) (still f) = still (f ∙ e)
kin_trans {Off} (still e) (both u v) = both (subst Off e u) v
kin_trans {Off} (both u v) (still f) = both u (subst Off (sym f) v)
kin_trans (both u v) (both w z) = both u z

-- ---- the small changes

module _ (Off : ℕ → Type 0) (h : ℕ) (on : ¬ Off h) where
  pub trans : {σ σ1 σ2 : Net} → Stays Off σ σ1 h → Stays Off σ1 σ2 h → Stays Off σ σ2 h
  trans a b = record {
    live = b.live;
    org = b.org ∙ a.org;
    dst = b.dst ∙ a.dst;
    mark = b.mark ∙ a.mark;
    has = b.has ∙ a.has;
    mate = λ e. kin_trans (a.mate e) (b.mate (a.has ∙ e));
  }

  not_off : (x : ℕ) → Off x → ¬ (h ≡ x)
  not_off x f e = on (subst Off (sym e) f)

  by_same : {σ σ' : Net} → Live σ' h → Same σ σ' h → Stays Off σ σ' h
  by_same l s = record { live = l; org = s.org; dst = s.dst; mark = s.mark; has = s.has; mate = λ e. still s.mate }

  pub wrote : {σ σ' : Net} → Live σ h → Wrote σ σ' → Stays Off σ σ' h
  wrote l w = by_same (w.live h ∙ l) (w.same h l)

  joined : {σ σ' : Net} {x y : ℕ} → Live σ h → Off x → Off y → Joined σ σ' x y → Stays Off σ σ' h
  joined {x = x} {y = y} l u v j = by_same (j.live h (not_off x u) (not_off y v) ∙ l) (j.same h (not_off x u) (not_off y v))

  dropped : {σ σ' : Net} {x y : ℕ} → Live σ h → Off x → Off y → Dropped σ σ' x y → Stays Off σ σ' h
  dropped {x = x} {y = y} l u v d = by_same (d.live h (not_off x u) (not_off y v) ∙ l) (d.same h)

  -- the partner moves with the half-edge that is moved
  moved_kin : (o v g g' : ℕ) → Off o → Off v → g' ≡ ren o v g → Kin Off g g'
  moved_kin o v g g' u w e = go (ℕ_discrete g o)
    where
      go : Dec (g ≡ o) → Kin Off g g'
      go (yes q) = both (subst Off (sym q) u) (subst Off (sym (e ∙ ren_yes o v g q)) w)
      go (no q) = still (e ∙ ren_no o v g q)

  parked : {σ σ' : Net} {o v : ℕ} → Live σ h → Off o → Off v → Parked σ σ' o v → Stays Off σ σ' h
  parked {σ} {σ'} {o} {v} l u w p =
      let n = not_off v w in
      record {
        live = p.live h (not_off o u) n ∙ l;
        org = p.org h n;
        dst = p.dst h n;
        mark = p.mark h n;
        has = p.has h n;
        mate = λ e. moved_kin o v (σ.mate h) (σ'.mate h) u w (p.mate h l n e);
      }

  moved : {σ σ' : Net} {o v : ℕ} → Live σ h → Off o → Off v → Moved σ σ' o v → Stays Off σ σ' h
  moved {σ} {σ'} {o} {v} l u w p =
      let n = not_off v w in
      record {
        live = p.live h (not_off o u) n ∙ l;
        org = p.org h;
        dst = p.dst h;
        mark = p.mark h n;
        has = p.has h n;
        mate = λ e. moved_kin o v (σ.mate h) (σ'.mate h) u w (p.mate h l n e);
      }

  -- ---- the filling

  module _ (Ccw : ℕ → ℕ → ℕ → Type 0) (c gp slot : ℕ → ℕ) (m r : ℕ) (gap_off : (x : ℕ) → x < m → Off (gp x)) (slot_off : (y d : ℕ) → y < suc r → d < 3 → Off (3 * slot y + d)) where
    root_off : (y : ℕ) → y < suc r → Off (3 * slot y)
    root_off y l = subst Off (sym (is0 (slot y))) (slot_off y 0 l lt0)

    fill_stays : {i j p q P : ℕ} {σ σ' : Net} → j ≤ m → q ≤ suc r → Off P → Live σ h → Fill Ccw c gp slot i j p q P σ σ' → Stays Off σ σ' h
    fill_stays a b u l (gap {i = i} v) = moved l (gap_off i a) u v
    fill_stays a b u l (node {k = k} {j = j} {q = q} {r = s} t w f g e) =
        let kj = fill_part Ccw c gp slot g in
        let qs = fill_slots Ccw c gp slot g in
        let x0 = wrote l w.wrote in
        let x1 = fill_stays (omega arith) (omega arith) (slot_off s 2 b lt2) x0.live f in
        let x2 = fill_stays a (omega arith) (slot_off s 1 b lt1) x1.live g in
        trans x0 (trans x1 (trans x2 (joined x2.live (root_off s b) u e)))

    pub closing_stays : {n q PL PR : ℕ} {σ σ1 σ2 σ3 σ4 : Net} → n ≤ m → Off PL → Off PR → Live σ h → Closing Ccw c gp slot n m q r PL PR σ σ1 σ2 σ3 σ4 → Stays Off σ σ4 h
    closing_stays {q = q} nm u v l act =
        let qr = act.some in
        let x1 = fill_stays nm (omega arith) u l act.left in
        let x2 = fill_stays le_self le_self v x1.live act.right in
        let x3 = dropped x2.live v (root_off r le_self) act.drop in
        trans x1 (trans x2 (trans x3 (moved x3.live u (root_off r le_self) act.move)))

  -- ---- the walk

  module _ (F : Figure) (t n : ℕ) (gap_off : (x : ℕ) → x < suc (suc (suc n)) → Off (F.vt x)) (slot_off : (y d : ℕ) → y < suc n → d < 3 → Off (3 * F.slot y + d)) where
    in_off : (y x : ℕ) → y < suc n → In (F.slot y) x → Off x
    in_off y x l i = subst Off (sym i.is) (slot_off y i.k l i.three)

    exit_off : {k l r x : ℕ} {σ σ' : Net} → k ≤ n → Walk F t k l r x σ σ' → Off x
    exit_off a (start {x = x} three small o o' o'' o''' s s' e e' p p') = in_off 0 x (omega arith) (parts three).in_f
    exit_off a (left {n = k} {f = f} w has plain three small o s e drop park) = in_off k f (omega arith) (parts three).in_f
    exit_off a (right {n = k} {g = g} w has plain three small o s e drop park) = in_off k g (omega arith) (parts three).in_g

    pub walk_stays : {k l r x : ℕ} {σ σ' : Net} → k ≤ n → Live σ h → Walk F t k l r x σ σ' → Stays Off σ σ' h
    walk_stays a l (start {f = f} {g = g} three small o o' o'' o''' s s' e e' p p') =
        let x1 = parked l (in_off 0 g (omega arith) (parts three).in_g) (gap_off 0 (omega arith)) p in
        trans x1 (parked x1.live (in_off 0 f (omega arith) (parts three).in_e) (gap_off 1 (omega arith)) p')
    walk_stays a l (left {n = k} {x = x} {g = g} {σ1 = σ1} w has plain three small o s e drop park) =
        let x1 = walk_stays (omega arith) l w in
        let x2 = dropped x1.live (exit_off (omega arith) w) (in_off k (σ1.mate x) (omega arith) (parts three).in_e) drop in
        trans x1 (trans x2 (parked x2.live (in_off k g (omega arith) (parts three).in_g) (gap_off (suc k) (omega arith)) park))
    walk_stays a l (right {n = k} {x = x} {f = f} {σ1 = σ1} w has plain three small o s e drop park) =
        let x1 = walk_stays (omega arith) l w in
        let x2 = dropped x1.live (exit_off (omega arith) w) (in_off k (σ1.mate x) (omega arith) (parts three).in_e) drop in
        trans x1 (trans x2 (parked x2.live (in_off k f (omega arith) (parts three).in_f) (gap_off (suc k) (omega arith)) park))

    pub arrive_stays : {l r x f g : ℕ} {σ σ1 σ2 σ3 σ4 : Net} → Live σ h → Walk F t n l r x σ σ1 → Arrive F t n l r x f g σ1 σ2 σ3 σ4 → Stays Off σ σ4 h
    arrive_stays {x = x} {f = f} {g = g} {σ1 = σ1} l w a =
        let prt = parts a.three in
        let x1 = walk_stays le_self l w in
        let x2 = dropped x1.live (exit_off le_self w) (in_off n (σ1.mate x) le_self prt.in_e) a.drop in
        let x3 = parked x2.live (in_off n g le_self prt.in_g) (gap_off (suc n) (omega arith)) a.park in
        let x4 = parked x3.live (in_off n f le_self prt.in_f) (gap_off (suc (suc n)) (omega arith)) a.park' in
        trans x1 (trans x2 (trans x3 x4))
