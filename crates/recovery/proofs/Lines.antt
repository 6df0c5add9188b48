-- The working area with the first pairs in: what its parts ask for, and what each of them leaves. Assumes nothing.
use mathlib.Core.List.{List}
use mathlib.Core.Path.{◌≡◌, refl, sym, ◌∙◌, subst}
use Prim.Native.Nat.{ℕ, zero, suc, ◌+◌, ◌*◌, ◌%◌, ◌≤◌, ◌<◌}
use native.Mathlib.Decide.{dec_lt}
use native.Mathlib.Omega.{arith}
use lib.IntN.{ℤ}
use Rattle.plane.specs.Base.{Side}
use Rattle.plane.specs.Points.{Pt}
use Rattle.tables.specs.Data.{point_count, point, end_a, end_b}
use Rattle.nets.specs.Layout.{cell, net_of, Kept}
use Rattle.nets.specs.Tilings.{Tiling}
use Rattle.chains.specs.Areas.{adj, chain_cell, slot_cell, chain_of, slot_of, mark_w, Room}
use Rattle.chains.specs.Recoveries.{StuckW}
use Rattle.chains.specs.Sticking.{Leaves, no_entry}
use Rattle.chains.proofs.Rooms.{mark_room, mark_still, still_kept, near}
use Rattle.carving.specs.Closing.{CanMark}
use Rattle.flipping.specs.Above.{Above}
use Rattle.looks.specs.Around.{Ranged, Neither, Told}
use Rattle.looks.specs.declared.Around.{Around}
use Rattle.nets.specs.Nets.{Net}
use Rattle.std.specs.Prelude.{Option, Some, None}
use Rattle.searches.proofs.Apart.{entry_alone}
use Rattle.looks.proofs.Laws.{ranged}
use Rattle.sheets.specs.Keeps.{EdgeOf}
use Rattle.remakes.proofs.Remakes.{grounds}
use Rattle.chains.specs.declared.Reason.{Reason}
use Rattle.stages.specs.Marking.{mark_net}
use Rattle.stages.specs.Stages.{Ground}
use Rattle.stages.proofs.Areas.{mark_net_lem}
use Rattle.stages.proofs.Stages.{already}
use Rattle.recovery.specs.Lines.{Lined}

-- ---- an answer that is neither an edge nor an entry edge

pub nothing : (N : Type 0) (P : ℕ → Pt ℤ) (m : Net) (a b : ℕ) (o : Option Around) → ((r : Around) → ¬ (o ≡ Some r)) → Told N P m a b o → N
nothing N P m a b (Some r) k x = absurd (k r refl)
nothing N P m a b None k x = x

-- ---- the room after flipping

pub room_again : {P : ℕ → Pt ℤ} {B : Side → Pt ℤ} (n t : ℕ) (w w' : List ℕ) → Room n t w → Kept n w w' → Above t w w' → Tiling P B n (net_of w' t) → Room n t w'
unfolding net_of chain_of slot_of cell
room_again n t w w' r k a v = record {
  some = r.some;
  few = r.few;
  less = r.less;
  real = r.real;
  long = rw k.len r.long;
  sound = λ h l. partner h l (dec_lt h (3 * t));
  slots = λ y l. rw (a.places (slot_cell n y) (let z = r.less in omega arith) (let z : ¬ (slot_cell n y % 16 ≡ 12) = omega arith in z)) (r.slots y l);
  chain = λ x l. rw (a.places (chain_cell n x) (let z = r.less in omega arith) (let z : ¬ (chain_cell n x % 16 ≡ 12) = omega arith in z)) (r.chain x l);
  low = v.corners;
}
  where
    at_most : (h x : ℕ) → h < 3 * t → ((g : ℕ) → x ≡ suc g → g < 3 * t) → x ≤ 8 * n + 2
    at_most h zero l f = omega arith
    at_most h (suc g) l f = let z = f g refl in let y = r.less in omega arith

    partner : (h : ℕ) → h < 8 * n + 4 → Dec (h < 3 * t) → adj w' h ≤ 8 * n + 2
    partner h l (yes b) = at_most h (adj w' h) b (λ g e. v.linked.low h g b e)
    partner h l (no b) = rw (a.links (cell 3 h) (omega arith) (omega arith)) (r.sound h l)

module _ {ps : List ℤ} {qs : List ℕ} {k : ℕ} {w : List ℕ} {T : ℕ} (s : Lined ps qs k w T) where
  abbrev n : ℕ
  n = point_count ps

  few : T ≤ 2 * point_count ps
  few = let z = s.room.less in omega arith

  -- ---- for the search

  pub search_asked : Ranged ps T w
  search_asked = ranged ps w T s.figure s.paired.tile s.room.less s.room.long

  -- There is neither an edge nor an entry edge.
  pub no_way : Neither (point ps) (net_of w T) (end_a qs k) (end_b qs k) → Ground ps qs k
  no_way e = record { net = net_of w T; paired = s.paired; absent = e.no_edge; sticks = no_entry e.no_entry }

  -- The recovery sticks.
  pub sticks_so : {x : ℕ} {e : Reason} → Leaves (point ps) (net_of w T) (end_a qs k) (end_b qs k) x → StuckW (point ps) (point_count ps) T (end_a qs k) (end_b qs k) w x e → Ground ps qs k
  unfolding net_of
  sticks_so {x} {e} lv o = grounds ps qs k w T x e s.paired s.room (entry_alone ps s.figure s.paired.tile (end_a qs k) (end_b qs k) x lv) lv o

  -- ---- for marking

  half_low : (h : ℕ) → h < 3 * T → h < 12 * point_count ps
  half_low h l = let z = few in let y = s.room.some in omega arith

  pub mark_fits : (h : ℕ) → h < 3 * T → adj w h ≤ 12 * point_count ps
  mark_fits h l = near n w h s.room.some s.room.sound (let z = few in omega arith)

  pub can_mark_it : (h : ℕ) → h < 3 * T → CanMark w h
  can_mark_it h l = let a = s.room.less in let b = s.figure.few in let c = s.room.long in
      let d = s.room.sound h (let z = few in omega arith) in let e = s.room.some in (omega arith, omega arith, omega arith)

  -- the edge of half-edge h is pair k: it is marked
  pub marked_edge : (h : ℕ) → h < 3 * T → EdgeOf (net_of w T) h (end_a qs k) (end_b qs k) → {w' : List ℕ} → w' ≡ mark_w w h (adj w h) → Lined ps qs (suc k) w' T × Kept n w w'
  unfolding net_of
  marked_edge h l e {w'} i = subst (λ (u : List ℕ). Lined ps qs (suc k) u T × Kept n w u) (sym i) (lined, kept)
    where
      kept : Kept n w (mark_w w h (adj w h))
      kept = still_kept n w (mark_w w h (adj w h)) (mark_still n w h (adj w h) (half_low h l) (mark_fits h l))

      net : net_of (mark_w w h (adj w h)) T ≡ mark_net (net_of w T) h (adj w h)
      net = mark_net_lem n w T h (adj w h) s.room.long (half_low h l) (mark_fits h l)

      lined : Lined ps qs (suc k) (mark_w w h (adj w h)) T
      lined = record {
        figure = s.figure;
        ends = s.ends;
        room = mark_room n T w h (adj w h) s.room (half_low h l) (mark_fits h l);
        ranks = λ j b. kept.ranks j ∙ s.ranks j b;
        paired = rw net (already ps qs s.paired h l e);
      }
