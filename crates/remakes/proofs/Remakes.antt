-- A recovery in the working area, seen through the model: it carves, or it sticks on refusal 11's ground. Assumes nothing.
use mathlib.Core.List.{List, []}
use mathlib.Core.Logic.{◌⊎◌, inl, inr}
use mathlib.Core.Path.{◌≡◌, refl, sym, ap, ◌∙◌, subst}
use Prim.Native.Nat.{ℕ, suc, ◌+◌, ◌-◌, ◌*◌, ◌≤◌, ◌<◌}
use native.Mathlib.Omega.{arith}
use lib.IntN.{ℤ}
use Rattle.plane.specs.Base.{Side}
use Rattle.plane.specs.Points.{Pt}
use Rattle.tables.specs.Data.{point_count, point, end_a, end_b, base}
use Rattle.tables.specs.Rules.{rank}
use Rattle.nets.specs.Flipping.{Mem, Watched}
use Rattle.nets.specs.Layout.{net_of}
use Rattle.nets.specs.Nets.{Net}
use Rattle.nets.specs.Tilings.{Tiling, Has, Marked}
use Rattle.cavities.specs.Corridors.{Figure}
use Rattle.cavities.specs.Nets.{Net as Model, World}
use Rattle.cavities.specs.Recovered.{Begun, Recovered}
use Rattle.cavities.specs.Tilings.{world}
use Rattle.cavities.proofs.Recovered.{recovery_keeps}
use Rattle.bridges.specs.Bridges.{Places, Taken}
use Rattle.bridges.specs.Images.{image, Reads}
use Rattle.bridges.proofs.From.{through}
use Rattle.bridges.proofs.Suspects.{watched_taken}
use Rattle.bridges.proofs.To.{to_begun}
use Rattle.chains.specs.Areas.{chain_of, slot_of, Room}
use Rattle.chains.specs.Recoveries.{WholeW, StuckW, on_way, at_apex}
use Rattle.chains.specs.Sticking.{Leaves}
use Rattle.mirrors.specs.Models.{model_of}
use Rattle.mirrors.specs.Recovered.{Laid, Mirrored}
use Rattle.mirrors.proofs.Recovered.{mirrored, model_reads}
use Rattle.stages.specs.Stages.{Paired, Remade, Ground}
use Rattle.stages.proofs.Stages.{remade}
use Rattle.tracks.specs.Tracks.{figure, Track}
use Rattle.tracks.proofs.Walked.{tracks, sticks_on_way, sticks_at_apex}
use Rattle.remakes.specs.Remakes.{Carved, Carves, Grounds}

module _ (ps : List ℤ) (qs : List ℕ) (k : ℕ) (w : List ℕ) (T x j : ℕ) (w' : List ℕ) (p : Paired ps qs k (net_of w T)) (room : Room (point_count ps) T w)
    (lv : Leaves (point ps) (net_of w T) (end_a qs k) (end_b qs k) x)
    (o : WholeW (point ps) (point_count ps) T (end_a qs k) (end_b qs k) w x j w') where
  abbrev n : ℕ
  n = point_count ps

  abbrev P : ℕ → Pt ℤ
  P = point ps

  abbrev B : Side → Pt ℤ
  B = base ps

  abbrev m : Net
  m = net_of w T

  abbrev m' : Net
  m' = net_of w' T

  abbrev a : ℕ
  a = end_a qs k

  abbrev b : ℕ
  b = end_b qs k

  abbrev l : ℕ
  l = o.l

  abbrev r : ℕ
  r = o.r

  abbrev w1 : List ℕ
  w1 = o.w1

  tr : Track P B n T a b w o.l o.r o.w1
  tr = tracks P B n n T a b w x l r w1 p.tile room lv o.walk

  F : Figure
  F = figure P n a b tr.apart w1 tr.turns

  -- the number of the last crossed slot
  abbrev c : ℕ
  c = o.l + o.r - 1

  places : Places (8 * n + 2) F T (T + 3) (o.l + o.r - 1) o.l o.r (8 * n) (8 * n + 1)
  unfolding F
  places = tr.places

  begun : Begun P B (8 * n + 2) (Marked m) (Has m) F T (T + 3) (o.l + o.r - 1) o.l o.r (8 * n) (8 * n + 1) (image P B m)
  unfolding net_of
  begun = to_begun P B n (8 * n + 2) F (T + 3) c l r (8 * n) (8 * n + 1) m p.tile places

  laid : Laid n w1 F o.l o.r
  unfolding F
  laid = record { left = λ z q. refl; right = λ z q. refl; slots = λ y q. refl; left_gap = λ z q. refl; right_gap = λ z q. refl }

  made : Mirrored P n T F (o.l + o.r - 1) o.l o.r (image P B m) w'
  unfolding F net_of
  made =
      let s = room.some in let f = room.less in let t = tr.few in let sl = tr.some_left in
      mirrored P (world P B (8 * n + 2) (Marked m) (Has m)) F T (T + 3) (image P B m) begun.tiled n c l r (omega arith) (omega arith) (omega arith) (omega arith) begun.room
      w1 w' tr.ghost tr.long laid tr.x tr.f tr.g tr.σ1 tr.σ2 tr.σ3 tr.walk tr.arrive o.closed

  whole : Recovered P B (Marked m) (Has m) T (F.cl 0) (F.cl (suc o.l)) (model_of n w' made.ghost)
  whole = recovery_keeps P B (8 * n + 2) (Marked m) (Has m) F T (T + 3) c l r (8 * n) (8 * n + 1) (image P B m) (model_of n w' made.ghost) begun made.recovery

  reads : Reads m' (model_of n w' made.ghost)
  reads = model_reads n T w' made.ghost (let f = room.less in omega arith) whole.whole.live whole.whole.low

  taken0 : Taken P B n (F.cl 0) (F.cl (suc o.l)) F.slot (o.l + o.r - 1) m m'
  unfolding net_of
  taken0 = through P B n (8 * n + 2) F (T + 3) c l r (8 * n) (8 * n + 1) m m' (model_of n w' made.ghost) p.tile places made.recovery reads

  slots_are : slot_of n w1 ≡ slot_of n w'
  slots_are = sym o.slots

  taken : Taken P B n a b (slot_of n w') (o.l + o.r - 1) m m'
  unfolding F
  taken =
      subst (λ (s : ℕ → ℕ). Taken P B n a b s c m m') slots_are
      (subst (λ (u : ℕ). Taken P B n u b (slot_of n w1) c m m') tr.left_from (subst (λ (v : ℕ). Taken P B n (chain_of n w1 0) v (slot_of n w1) c m m') tr.left_to taken0))

  at_rest : Watched P (rank ps) m []
  at_rest h g q v = absurd (p.rest h g q v)

  pub carved : Carved ps qs k w T j w'
  carved = record {
    some = (let e = o.count in let s = tr.some_left in omega arith);
    few = (let e = o.count in let s = tr.few in omega arith);
    low = λ y q. subst (λ (f : ℕ → ℕ). f y < T) slots_are (tr.slot_low y (let e = o.count in omega arith));
    apart = λ y z q v e. tr.slot_apart y z (let i = o.count in omega arith) (let i = o.count in omega arith) (ap (λ (f : ℕ → ℕ). f y) slots_are ∙ e ∙ ap (λ (f : ℕ → ℕ). f z) o.slots);
    remade = λ q all. subst (λ (i : ℕ). Remade ps qs k m m' q (3 * slot_of n w' i)) (let e = o.count in let z : o.l + o.r - 1 ≡ j - 1 = omega arith in z)
        (remade ps qs p taken (watched_taken taken (rank ps) q at_rest (λ y v. all y (let e = o.count in let s = tr.some_left in omega arith))));
  }

pub carves : Carves
carves = carved

pub grounds : Grounds
unfolding net_of
grounds ps qs k w T x e p room none lv (on_way {e = r} {w1 = w1} s) =
    record { net = net_of w T; paired = p; absent = none; sticks = sticks_on_way (point ps) (base ps) (point_count ps) (point_count ps) T (end_a qs k) (end_b qs k) w x r w1 p.tile room lv s }
grounds ps qs k w T x e p room none lv (at_apex {l = l} {r = r} {w1 = w1} s d) =
    record { net = net_of w T; paired = p; absent = none; sticks = sticks_at_apex (point ps) (base ps) (point_count ps) (point_count ps) T (end_a qs k) (end_b qs k) w x l r w1 p.tile room lv s d }
