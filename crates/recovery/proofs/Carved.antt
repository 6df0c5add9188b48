-- A pair is recovered: its triangles are made anew, its edge is marked, they become suspects, and edges are flipped. Assumes nothing.
use mathlib.Core.List.{List, ◌∷◌}
use mathlib.Core.Path.{◌≡◌, refl, sym, ap, ◌∙◌, subst}
use Prim.Native.Nat.{ℕ, zero, suc, ◌-◌, ◌*◌, ◌≤◌, ◌<◌}
use native.Mathlib.Decide.{dec_lt}
use native.Mathlib.Omega.{arith}
use lib.IntN.{ℤ}
use lib.ListN.{length}
use Rattle.tables.specs.Data.{point_count, point, end_a, end_b, base}
use Rattle.tables.specs.Rules.{rank}
use Rattle.nets.specs.Flipping.{Mem, Mem.top, Mem.below, Legal}
use Rattle.nets.specs.Layout.{net_of, Kept}
use Rattle.nets.specs.Tilings.{Tiling}
use Rattle.nets.proofs.Keeps.{kept_then}
use Rattle.suspects.specs.Stack.{stack, Suspects, Aside}
use Rattle.chains.specs.Areas.{adj, slot_of, mark_w, Room, Still}
use Rattle.chains.specs.Recoveries.{WholeW}
use Rattle.chains.specs.Sticking.{Leaves}
use Rattle.chains.proofs.Rooms.{mark_room, mark_still, still_kept, slot_still}
use Rattle.flipping.specs.Above.{Above}
use Rattle.carving.specs.Closing.{CanMark}
use Rattle.carving.specs.Suspecting.{Different, down_from, Suspected}
use Rattle.wants.specs.Tries.{Ready}
use Rattle.stages.specs.Marking.{mark_net}
use Rattle.stages.specs.Stages.{Paired, Remade}
use Rattle.stages.proofs.Areas.{mark_net_lem}
use Rattle.stages.proofs.Marking.{mark_tile}
use Rattle.stages.proofs.Stages.{recovered}
use Rattle.remakes.specs.Remakes.{Carved}
use Rattle.remakes.proofs.Remakes.{carves}
use Rattle.recovery.specs.Lines.{Lined}
use Rattle.recovery.proofs.Lines.{room_again}

mem_down : (slot : ℕ → ℕ) (k y : ℕ) → y < k → Mem (slot y) (down_from slot k)
unfolding down_from
mem_down slot zero y l = absurd (let z : y < 0 → ⊥ = omega arith in z l)
mem_down slot (suc k) y l = go (mem_down slot k y) (dec_lt y k)
  where
    go : (y < k → Mem (slot y) (down_from slot k)) → Dec (y < k) → Mem (slot y) (slot k ∷ down_from slot k)
    go f (yes b) = below (f b)
    go f (no b) = subst (λ (x : ℕ). Mem (slot x) (slot k ∷ down_from slot k)) (let e : k ≡ y = omega arith in e) top

aside_above : (count : ℕ) (w w' : List ℕ) → Aside count w w' → Above count w w'
aside_above count w w' a = record { links = λ c l b. a.under c b; places = λ c l b. a.beyond c l }

-- the recovery has ended with j new triangles in the area w1
module _ {ps : List ℤ} {qs : List ℕ} {k : ℕ} {w : List ℕ} {T x : ℕ} (s : Lined ps qs k w T) (lv : Leaves (point ps) (net_of w T) (end_a qs k) (end_b qs k) x) {j : ℕ} {w1 : List ℕ}
    (o : WholeW (point ps) (point_count ps) T (end_a qs k) (end_b qs k) w x j w1) (kept1 : Kept (point_count ps) w w1) where
  abbrev n : ℕ
  n = point_count ps

  carved : Carved ps qs k w T j w1
  carved = carves ps qs k w T x j w1 s.paired s.room lv o

  pub some : 0 < j
  some = carved.some

  pub fits : (j - 1 < 2 * point_count ps) × (64 * point_count ps ≤ length w1)
  fits = let a = carved.few in let b = s.room.less in let c = carved.some in (omega arith, o.room.long)

  -- the root's half-edge
  abbrev root : ℕ
  root = slot_of (point_count ps) w1 (j - 1)

  root_low : root < T
  root_low = carved.low (j - 1) (let a = carved.some in omega arith)

  pub h_low : 3 * root < 3 * T
  h_low = let a = root_low in omega arith

  h_near : 3 * root < 12 * point_count ps
  h_near = let a = root_low in let b = s.room.less in omega arith

  pub partner_low : adj w1 (3 * root) ≤ 3 * T
  unfolding net_of
  partner_low = let r = carved.remade (down_from (slot_of n w1) j) (λ y l. mem_down (slot_of n w1) j y l) in most (adj w1 (3 * root)) (λ g e. low r g e)
    where
      most : (a : ℕ) → ((g : ℕ) → a ≡ suc g → g < 3 * T) → a ≤ 3 * T
      most zero f = omega arith
      most (suc g) f = f g refl

      low : {q : List ℕ} → Remade ps qs k (net_of w T) (net_of w1 T) q (3 * root) → (g : ℕ) → adj w1 (3 * root) ≡ suc g → g < 3 * T
      low r g e = r.tile.linked.low (3 * root) g r.low e

  p_near : adj w1 (3 * root) ≤ 12 * point_count ps
  p_near = let a = partner_low in let b = s.room.less in omega arith

  pub can_mark : CanMark w1 (3 * root)
  can_mark = let a = root_low in let b = s.room.less in let c = s.figure.few in let d = o.room.long in let e = partner_low in (omega arith, omega arith, omega arith)

  -- its edge is marked
  module _ {w2 : List ℕ} (m : w2 ≡ mark_w w1 (3 * root) (adj w1 (3 * root))) where
    still2 : Still n w1 w2
    still2 = subst (Still n w1) (sym m) (mark_still n w1 (3 * root) (adj w1 (3 * root)) h_near p_near)

    kept2 : Kept n w1 w2
    kept2 = still_kept n w1 w2 still2

    room2 : Room n T w2
    room2 = subst (Room n T) (sym m) (mark_room n T w1 (3 * root) (adj w1 (3 * root)) o.room h_near p_near)

    slots2 : slot_of n w2 ≡ slot_of n w1
    slots2 = slot_still n w1 w2 still2

    net2 : net_of w2 T ≡ mark_net (net_of w1 T) (3 * root) ((net_of w1 T).adj (3 * root))
    unfolding net_of
    net2 = ap (λ (u : List ℕ). net_of u T) m ∙ mark_net_lem n w1 T (3 * root) (adj w1 (3 * root)) o.room.long h_near p_near

    pub suspects_asked : Room n T w2 × (j ≤ T) × Different j (slot_of n w2)
    suspects_asked = (
      room2,
      carved.few,
      λ y z l b e. (let i = carved.apart y z (let v = l in omega arith) b
          (ap (λ (f : ℕ → ℕ). f y) (sym slots2) ∙ e ∙ ap (λ (f : ℕ → ℕ). f z) slots2) in let c : y ≡ z → ⊥ = omega arith in c i),
    )

    -- they are suspects
    module _ {w3 : List ℕ} (v : Suspected n T j w2 w3) where
      all : (y : ℕ) → y < j → Mem (slot_of n w1 y) (stack w3 j)
      all y l = subst (Mem (slot_of n w1 y)) (sym (v.stack_is ∙ ap (λ (f : ℕ → ℕ). down_from f j) slots2)) (mem_down (slot_of n w1) j y l)

      remade3 : Remade ps qs k (net_of w T) (net_of w1 T) (stack w3 j) (3 * root)
      remade3 = carved.remade (stack w3 j) all

      net3 : net_of w3 T ≡ mark_net (net_of w1 T) (3 * root) ((net_of w1 T).adj (3 * root))
      net3 = v.net T ∙ net2

      tile3 : Tiling (point ps) (base ps) (point_count ps) (net_of w3 T)
      tile3 = rw net3 (mark_tile remade3.tile (3 * root) remade3.low)

      kept3 : Kept n w w3
      kept3 = kept_then n w w2 w3 (kept_then n w w1 w2 kept1 kept2) v.kept

      room3 : Room n T w3
      room3 = room_again n T w2 w3 room2 v.kept (aside_above T w2 w3 v.aside) tile3

      pub flips_asked : Ready ps T w3 × Suspects T w3 (stack w3 j) × (0 < T)
      flips_asked = (record { tiling = tile3; ranks = λ i l. kept3.ranks i ∙ s.ranks i l; few = s.room.less; room = room3.long }, v.suspects, s.room.real)

      -- and step 3 flips none any more
      pub line_in : {w4 : List ℕ} {z : ℕ} → Legal (point ps) (rank ps) (net_of w3 T) (stack w3 j) 0 (net_of w4 T) z → Kept n w3 w4 → Above T w3 w4 → Lined ps qs (suc k) w4 T × Kept n w w4
      line_in {w4} {z} g e a = (
        record {
          figure = s.figure;
          ends = s.ends;
          room = room_again n T w3 w4 room3 e a paired4.tile;
          ranks = λ i l. e.ranks i ∙ kept3.ranks i ∙ s.ranks i l;
          paired = paired4;
        },
        kept_then n w w3 w4 kept3 e,
      )
        where
          paired4 : Paired ps qs (suc k) (net_of w4 T)
          paired4 = recovered ps qs s.paired remade3 (rw net3 at g)
