-- The loop of flipping: what holds between two suspects, and what each kind of turn makes of it. Assumes nothing.
use mathlib.Core.List.{List, ◌∷◌}
use mathlib.Core.Path.{◌≡◌, refl, sym, ap, ◌∙◌, subst}
use Prim.Native.Nat.{ℕ, suc, ◌+◌, ◌-◌, ◌*◌, ◌/◌, ◌%◌, ◌<◌, ◌≤◌}
use native.Mathlib.Omega.{arith}
use lib.IntN.{ℤ}
use lib.ListN.{length, get_or, set}
use lib.Seq.{get_or-set_other}
use Rattle.plane.specs.Points.{Pt}
use Rattle.tables.specs.Data.{point_count, point, base}
use Rattle.tables.specs.Figures.{Figure}
use Rattle.tables.specs.Rules.{rank}
use Rattle.nets.specs.Flipping.{Wants, reborn, Legal}
use Rattle.nets.specs.Layout.{cell, net_of, flag_cell, stack_cell, rank_cell, flip_list, InRange, Kept}
use Rattle.nets.specs.Nets.{Net}
use Rattle.nets.specs.Steps.{flip}
use Rattle.nets.specs.Tilings.{Tiling}
use Rattle.nets.proofs.Ends.{measure, room6}
use Rattle.nets.proofs.Figures.{rank_below}
use Rattle.nets.proofs.Flip.{two_slots}
use Rattle.nets.proofs.FlipTile.{tile_apart, far, flip_tile}
use Rattle.nets.proofs.Keeps.{kept_same, kept_then, kept_set, flip_kept}
use Rattle.nets.proofs.Memory.{net_eq}
use Rattle.nets.proofs.Places.{net_set, tiling_range, flip_net}
use Rattle.nets.proofs.Suspects.{turn_falls}
use Rattle.suspects.specs.Stack.{stack, Fresh, Suspects, Aside, Reborn}
use Rattle.suspects.proofs.Stack.{stack_none, stack_length, stack_same, suspects_same, popped_low, popped_is, popped_fresh, popped_suspects}
use Rattle.std.specs.Prelude.{Some, None}
use Rattle.wants.specs.Tries.{Ready, First, edge, none}
use Rattle.flipping.specs.Above.{Above}
use Rattle.flipping.proofs.Elsewhere.{flip_off}

-- ---- what is aside leaves the net, the ranks and the rest

aside_net : (count : ℕ) (w w' : List ℕ) → Aside count w w' → (T : ℕ) → net_of w' T ≡ net_of w T
unfolding net_of cell
aside_net count w w' a T =
    net_eq (net_of w' T) (net_of w T) refl (λ h. a.under (cell 0 h) (omega arith)) (λ h. a.under (cell 3 h) (omega arith)) (λ h. a.under (cell 6 h) (omega arith))

aside_kept : (count n : ℕ) (w w' : List ℕ) → 16 * count + 16 ≤ 64 * n → Aside count w w' → Kept n w w'
aside_kept count n w w' l a = record {
  len = a.len;
  ranks = λ i. a.over (rank_cell i) (omega arith);
  free = λ i f b d. a.over (16 * i + f) (omega arith);
  rest = λ c b. a.beyond c (omega arith);
}

aside_above : (count : ℕ) (w w' : List ℕ) → Aside count w w' → Above count w w'
aside_above count w w' a = record { links = λ c l b. a.under c b; places = λ c l b. a.beyond c l }

above_same : (count : ℕ) (w : List ℕ) → Above count w w
above_same count w = record { links = λ c l b. refl; places = λ c l b. refl }

above_then : (count : ℕ) (w u v : List ℕ) → Above count w u → Above count u v → Above count w v
above_then count w u v a b = record { links = λ c l k. b.links c l k ∙ a.links c l k; places = λ c l k. b.places c l k ∙ a.places c l k }

-- ---- a working area that is ready

module _ {ps : List ℤ} {count : ℕ} {w : List ℕ} (r : Ready ps count w) where
  ready_same : {w' : List ℕ} → net_of w' count ≡ net_of w count → Kept (point_count ps) w w' → Ready ps count w'
  ready_same e k = record {
    tiling = rw e r.tiling;
    ranks = λ i l. k.ranks i ∙ r.ranks i l;
    few = r.few;
    room = rw k.len r.room;
  }

  ready_low : (h : ℕ) → h < 3 * count → (net_of w count).org h < point_count ps
  unfolding net_of
  ready_low h l = r.tiling.corners h l

  pub ready_range : Figure ps → InRange count w
  ready_range f = tiling_range (point_count ps) w count r.tiling (omega arith) r.room (let a = r.few in omega arith) f.few

  ready_below : 16 * count + 16 ≤ 64 * point_count ps
  ready_below = let a = r.few in omega arith

-- ---- the edge that flips, and its partner

pub record Found (ps : List ℤ) (count : ℕ) (w : List ℕ) (t e : ℕ) : Type 0 where
  pub wants : Wants (point ps) (rank ps) (net_of w count) (3 * t + e) (get_or w (16 * t + 3 + e) 0 - 1)
  pub before : (x y : ℕ) → x < 3 * t + e → x / 3 ≡ t → ¬ Wants (point ps) (rank ps) (net_of w count) x y
  pub some : 0 < get_or w (16 * t + 3 + e) 0

pub first_low : {P : ℕ → Pt ℤ} {rk : ℕ → ℕ} {m : Net} {t e : ℕ} → First P rk m t (Some e) → e < 3
first_low (edge e g b u n) = b

first_found : (ps : List ℤ) (count : ℕ) (w : List ℕ) (t : ℕ) {e : ℕ} → First (point ps) (rank ps) (net_of w count) t (Some e) → Found ps count w t e
unfolding net_of cell
first_found ps count w t (edge e g b u n) =
    let i : get_or w (16 * t + 3 + e) 0 ≡ suc g = ap (λ (x : ℕ). get_or w x 0) (let z : 16 * t + 3 + e ≡ 16 * ((3 * t + e) / 3) + 3 + (3 * t + e) % 3 = omega arith in z) ∙ u.pair in
    record { wants = subst (Wants (point ps) (rank ps) (net_of w count) (3 * t + e)) (let z : g ≡ get_or w (16 * t + 3 + e) 0 - 1 = omega arith in z) u; before = n; some = omega arith }

-- ---- the loop

-- what is left to do
abbrev pub left : List ℤ → ℕ → List ℕ → ℕ → ℕ
left ps count w m = measure (point ps) (rank ps) (point_count ps) (6 * (point_count ps * (point_count ps * point_count ps)) + 1) (net_of w count) m

-- between two suspects: what flipping ends in from here, it ends in from the start
pub record Live (ps : List ℤ) (w₀ : List ℕ) (count many newest : ℕ) (w : List ℕ) (m z : ℕ) : Type 0 where
  pub ready : Ready ps count w
  pub kept : Kept (point_count ps) w₀ w
  pub above : Above count w₀ w
  pub suspects : Suspects count w (stack w m)
  pub low : z < count
  pub goes : (m' : Net) (z' : ℕ) → Legal (point ps) (rank ps) (net_of w count) (stack w m) z m' z' → Legal (point ps) (rank ps) (net_of w₀ count) (stack w₀ many) newest m' z'

-- with suspect t taken, and k left
pub record Popped (ps : List ℤ) (w₀ : List ℕ) (count many newest : ℕ) (w : List ℕ) (k t z : ℕ) : Type 0 where
  pub ready : Ready ps count w
  pub kept : Kept (point_count ps) w₀ w
  pub above : Above count w₀ w
  pub slot : t < count
  pub fresh : Fresh t (stack w k)
  pub suspects : Suspects count w (stack w k)
  pub low : z < count
  pub goes : (m' : Net) (z' : ℕ) → Legal (point ps) (rank ps) (net_of w count) (t ∷ stack w k) z m' z' → Legal (point ps) (rank ps) (net_of w₀ count) (stack w₀ many) newest m' z'

pub live_start : (ps : List ℤ) (w : List ℕ) (count many newest : ℕ) → Ready ps count w → Suspects count w (stack w many) → newest < count → Live ps w count many newest w many newest
live_start ps w count many newest r g l = record { ready = r; kept = kept_same (point_count ps) w; above = above_same count w; suspects = g; low = l; goes = λ m' z' s. s }

module _ {ps : List ℤ} {w₀ : List ℕ} {count many newest : ℕ} where
  module _ {w : List ℕ} {m z : ℕ} (o : Live ps w₀ count many newest w m z) where
    pub live_end : m ≡ 0 → (z < count) × Legal (point ps) (rank ps) (net_of w₀ count) (stack w₀ many) newest (net_of w count) z × Kept (point_count ps) w₀ w × Above count w₀ w
    live_end e = (o.low, o.goes (net_of w count) z (rw (e, stack_none) Legal.done), o.kept, o.above)

    -- ---- a suspect is taken

    module _ (p : 0 < m) where
      abbrev s : ℕ
      s = get_or w (stack_cell (m - 1)) 0

      abbrev v : List ℕ
      v = set w (flag_cell s) 0

      flag_net : net_of v count ≡ net_of w count
      flag_net = net_set w count (flag_cell s) 0 (omega arith)

      flag_kept : Kept (point_count ps) w v
      flag_kept =
          let l = popped_low count w m p o.suspects in let b = ready_below o.ready in
          kept_set (point_count ps) w (flag_cell s) 0 (omega arith) (omega arith) (omega arith)

      flag_above : Above count w v
      flag_above =
          let l = popped_low count w m p o.suspects in
          record {
            links = λ c a b. get_or-set_other w (flag_cell s) c 0 0 (λ e. let z : ⊥ = omega arith in z);
            places = λ c a b. get_or-set_other w (flag_cell s) c 0 0 (λ e. let z : ⊥ = omega arith in z);
          }

      pop_at : Popped ps w₀ count many newest v (m - 1) s z
      pop_at = record {
        ready = ready_same o.ready flag_net flag_kept;
        kept = kept_then (point_count ps) w₀ w v o.kept flag_kept;
        above = above_then count w₀ w v o.above flag_above;
        slot = popped_low count w m p o.suspects;
        fresh = popped_fresh count w m p o.suspects;
        suspects = popped_suspects count w m p o.suspects;
        low = o.low;
        goes = λ m' z' g. o.goes m' z' (rw (popped_is count w m p o.suspects, ← flag_net) g);
      }

      module _ {t : ℕ} {w' : List ℕ} (i : t ≡ s) (j : w' ≡ set w (flag_cell t) 0) where
        pub live_pop : Popped ps w₀ count many newest w' (m - 1) t z
        live_pop = rw (j, i) pop_at

        pop_net : net_of w' count ≡ net_of w count
        pop_net = rw (j, i) flag_net

        pub pop_same : left ps count w' (m - 1 + 1) ≡ left ps count w m
        pop_same = let e : m - 1 + 1 ≡ m = omega arith in rw (pop_net, e)

        -- a suspect fewer
        pub pop_falls : left ps count w' (m - 1) < left ps count w m
        pop_falls = rw pop_net (omega arith)

  module _ {w : List ℕ} {k t z : ℕ} (o : Popped ps w₀ count many newest w k t z) where
    -- ---- none of its edges flips

    pub live_stay : First (point ps) (rank ps) (net_of w count) t None → Live ps w₀ count many newest w k z
    live_stay f = record { ready = o.ready; kept = o.kept; above = o.above; suspects = o.suspects; low = o.low; goes = λ m' z' g. o.goes m' z' (Legal.stay quiet g) }
      where
        rests : First (point ps) (rank ps) (net_of w count) t None → (h g : ℕ) → h / 3 ≡ t → ¬ Wants (point ps) (rank ps) (net_of w count) h g
        rests (none n) = n

        quiet : (h g : ℕ) → h < 3 * (net_of w count).tris → h / 3 ≡ t → ¬ Wants (point ps) (rank ps) (net_of w count) h g
        quiet h g b i = rests f h g i

    -- ---- an edge flips

    module _ {e : ℕ} (f : First (point ps) (rank ps) (net_of w count) t (Some e)) where
      abbrev h : ℕ
      h = 3 * t + e

      abbrev p : ℕ
      p = get_or w (16 * t + 3 + e) 0

      abbrev g : ℕ
      g = p - 1

      abbrev net : Net
      net = net_of w count

      found : Found ps count w t e
      found = first_found ps count w t f

      wants : Wants (point ps) (rank ps) net h g
      wants = found.wants

      hb : h < 3 * count
      hb = let l = o.slot in let el = first_low f in omega arith

      gb : g < 3 * count
      unfolding net_of
      gb = o.ready.tiling.linked.low h g hb wants.pair

      pub found_some : 0 < p
      found_some = found.some

      pub found_low : (h < 3 * count) × (g < 3 * count)
      found_low = (hb, gb)

      slot : h / 3 ≡ t
      slot = let el = first_low f in omega arith

      apart : ¬ (t ≡ g / 3)
      unfolding net_of
      apart i = two_slots o.ready.tiling.linked (tile_apart o.ready.tiling) h g hb wants.pair (far o.ready.tiling h g hb wants.pair) (sym i ∙ sym slot)

      -- the working area after the flip
      module _ (fig : Figure ps) {v : List ℕ} (i : v ≡ flip_list w h g) where
        flip_keeps : Kept (point_count ps) w v
        flip_keeps =
            let a = ready_below o.ready in
            rw i (flip_kept (point_count ps) w count (omega arith) (ready_low o.ready) (ready_range o.ready fig).partners h g hb gb)

        flip_is : net_of v count ≡ flip net h g
        flip_is = rw i (flip_net w count (ready_range o.ready fig) h g hb gb)

        off : (c : ℕ) → 9 ≤ c % 16 → c % 16 < 11 → get_or v c 0 ≡ get_or w c 0
        off c l b = rw i (flip_off count c (λ s k x y e. let z : ⊥ = omega arith in z) (λ e. let z : ⊥ = omega arith in z) w (ready_range o.ready fig).partners h g hb gb)

        flip_above : Above count w v
        flip_above = record {
          links = λ c l b. rw i (flip_off count c (λ s k x y e. let z : ⊥ = omega arith in z) (λ e. let z : ⊥ = omega arith in z) w (ready_range o.ready fig).partners h g hb gb);
          places = λ c l b. rw i (flip_off count c (λ s k x y e. let z : ⊥ = omega arith in z) b w (ready_range o.ready fig).partners h g hb gb);
        }

        flip_stack : stack v k ≡ stack w k
        flip_stack = stack_same w v k (λ j l. off (stack_cell j) (omega arith) (omega arith))

        flip_suspects : Suspects count v (stack v k)
        flip_suspects = rw flip_stack (suspects_same count w v (stack w k) (λ s l. off (flag_cell s) (omega arith) (omega arith)) o.suspects)

        flip_fresh : Fresh t (stack v k)
        flip_fresh = rw flip_stack o.fresh

        pub found_reborn : ((16 * count + 16 ≤ length v) × (count ≤ 8192) × (t < count) × (g / 3 < count) × (¬ (t ≡ g / 3))) × (Suspects count v (stack v k) × Fresh t (stack v k))
        found_reborn =
            let a = ready_below o.ready in let b = o.ready.room in let c = o.ready.few in let d = fig.few in let e = flip_keeps.len in let x = gb in
            ((omega arith, omega arith, o.slot, omega arith, apart), (flip_suspects, flip_fresh))

        -- and after both are born again
        module _ {u : List ℕ} {r : ℕ} (q : Reborn count v k t (g / 3) u r) where
          new_net : net_of u count ≡ flip net h g
          new_net = aside_net count v u q.aside count ∙ flip_is

          new_kept : Kept (point_count ps) w u
          new_kept = kept_then (point_count ps) w v u flip_keeps (aside_kept count (point_count ps) v u (ready_below o.ready) q.aside)

          new_stack : stack u r ≡ reborn h g (stack w k)
          new_stack = q.stack_is ∙ rw (flip_stack, slot)

          new_tile : Tiling (point ps) (base ps) (point_count ps) (flip net h g)
          unfolding net_of
          new_tile = flip_tile o.ready.tiling h g hb wants.pair wants.ccw_t wants.ccw_n

          below : h < 3 * net.tris
          unfolding net_of
          below = hb

          pub live_turn : Live ps w₀ count many newest u r (g / 3)
          live_turn = record {
            ready = record { tiling = rw new_net new_tile; ranks = λ j l. new_kept.ranks j ∙ o.ready.ranks j l; few = o.ready.few; room = rw new_kept.len o.ready.room };
            kept = kept_then (point_count ps) w₀ w u o.kept new_kept;
            above = above_then count w₀ w u o.above (above_then count w v u flip_above (aside_above count v u q.aside));
            suspects = q.suspects;
            low = let x = gb in omega arith;
            goes = λ m' z' s. o.goes m' z' (Legal.turn h g slot below wants (λ x y l j. found.before x y l (j ∙ slot)) (rw (new_net, new_stack) at s));
          }

          falls : measure (point ps) (rank ps) (point_count ps) (6 * (point_count ps * (point_count ps * point_count ps)) + 1) (flip net h g)
              (length (reborn h g (stack w k))) < measure (point ps) (rank ps) (point_count ps)
              (6 * (point_count ps * (point_count ps * point_count ps)) + 1) net (length (h / 3 ∷ stack w k))
          unfolding net_of
          falls =
              turn_falls (stack w k) (point_count ps) (6 * (point_count ps * (point_count ps * point_count ps)) + 1) h g o.ready.tiling (rank_below ps)
              (room6 (point_count ps) count (let a = o.ready.few in omega arith)) hb wants

          pub turn_less : left ps count u r < left ps count w (k + 1)
          turn_less =
              let a : length (reborn h g (stack w k)) ≡ r = ap length (sym new_stack) ∙ stack_length u r in
              let b : length (h / 3 ∷ stack w k) ≡ k + 1 = ap suc (stack_length w k) ∙ (let z : suc k ≡ k + 1 = omega arith in z) in
              rw new_net (rw (a, b) at falls)
