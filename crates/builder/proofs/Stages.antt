-- The stages of the building: what a stage gives, and how one point leads to the next stage. Assumes nothing.
use mathlib.Core.Bool.{Bool, true, false, cond}
use mathlib.Core.List.{List}
use mathlib.Core.Path.{◌≡◌, refl, sym, ap, ap₂, ◌∙◌, subst}
use Prim.Native.Nat.{ℕ, suc, ◌+◌, ◌-◌, ◌*◌, ◌<◌, ◌≤◌}
use native.Mathlib.Omega.{arith}
use lib.IntN.{ℤ}
use lib.ListN.{length, get_or}
use Rattle.tables.specs.Data.{point_count, point, base, clockwise}
use Rattle.tables.specs.Figures.{Figure}
use Rattle.tables.specs.Rules.{rank}
use Rattle.tables.proofs.Table.{not_outside}
use Rattle.nets.specs.Building.{BuildsTo, BuiltFrom, alone, more, start, base_rec, second_corner, third_corner}
use Rattle.nets.specs.Flipping.{Legal}
use Rattle.nets.specs.Layout.{net_of, born, Kept}
use Rattle.nets.specs.Location.{Split, locate, split_in, inserted}
use Rattle.nets.specs.Nets.{Net}
use Rattle.nets.specs.Slots.{write}
use Rattle.nets.specs.Tilings.{Tiling}
use Rattle.nets.proofs.Figures.{figure_built, figure_inserts}
use Rattle.nets.proofs.Insert.{Inserted, More, two_more, one_more}
use Rattle.nets.proofs.Keeps.{born_kept}
use Rattle.nets.proofs.Places.{net_born}
use Rattle.nets.proofs.Walk.{located_by}
use Rattle.std.specs.Prelude.{Option, Some, None, IsSome}
use Rattle.std.proofs.Common.{rules}
use Rattle.suspects.specs.Stack.{stack}
use Rattle.turns.specs.Numbers.{suc_or_0}
use Rattle.wants.specs.Tries.{Ready}
use Rattle.splitting.specs.Splits.{Tiled, Grown}
use Rattle.builder.specs.Stages.{Ranks, Stage, Begun, Delaunay}

module _ {ps : List ℤ} {o : Net} {k : ℕ} {w : List ℕ} {T z : ℕ} (s : Stage ps o k w T z) where
  abbrev n : ℕ
  n = point_count ps

  abbrev m : Net
  m = net_of w T

  pub stage_built : BuiltFrom ps k m z
  stage_built = figure_built ps s.figure s.low s.builds

  pub stage_tiled : Tiled ps k w T
  unfolding net_of
  stage_tiled = record { figure = s.figure; tile = stage_built.tile; few = stage_built.few; low = s.low; room = s.room }

  pub stage_newest : z < T
  unfolding net_of
  stage_newest = stage_built.newest

  module _ (kn : k < n) where
    -- the point lies in a triangle
    pub stage_found : (t : ℕ) × (t < T) × (locate (point ps) m (point ps k) z ≡ suc t)
    unfolding net_of
    stage_found =
        let r = located_by stage_built.tile (point ps k) (not_outside ps k (s.figure.within k kn)) z stage_newest in
        (r.0, r.1, r.2)

    pub stage_some : (f : Option ℕ) → suc_or_0 f ≡ locate (point ps) m (point ps k) z → IsSome f
    stage_some None e = let q : 0 ≡ suc stage_found.0 = e ∙ stage_found.2 in absurd (let f : ⊥ = omega arith in f)
    stage_some (Some t) e = search rules

    pub stage_slot : {t : ℕ} → suc t ≡ locate (point ps) m (point ps k) z → t < T
    stage_slot {t} e = let r = stage_found in let q : suc t ≡ suc r.0 = e ∙ r.2 in let l = r.1 in omega arith

    -- the split is the one that the steps ask for
    pub split_grown : {t : ℕ} → suc t ≡ locate (point ps) m (point ps k) z → {w1 : List ℕ} {c many : ℕ} →
        Grown ps w (split_in (point ps) m t k) w1 c many → Grown ps w (inserted (point ps) m z k) w1 c many
    unfolding inserted
    split_grown e {w1} {c} {many} g = rw (← e) g

    abbrev q : Split
    q = inserted (point ps) m z k

    goes : Inserted (point ps) (base ps) (rank ps) k m q
    goes = figure_inserts ps s.figure k kn s.builds

    more_few : (m1 : Net) → More (base ps) (point ps k) m m1 → m1.tris + 5 ≤ 2 * (k + 1)
    more_few m1 (two_more e i) = let y = stage_built.few in omega arith
    more_few m1 (one_more e i) = let y = stage_built.few in omega arith

    -- after the split
    module _ {w1 : List ℕ} {c many : ℕ} (g : Grown ps w q w1 c many) where
      tile_more : {k' : ℕ} {m1 : Net} → k + 1 ≤ k' → Tiling (point ps) (base ps) (k + 1) m1 → Tiling (point ps) (base ps) k' m1
      tile_more l t = record { linked = t.linked; corners = λ h b. (let r = t.corners h b in omega arith); ccw = t.ccw; base_ccw = t.base_ccw; areas = t.areas }

      pub grown_tile : Tiling (point ps) (base ps) n (net_of w1 c)
      grown_tile = subst (Tiling (point ps) (base ps) n) (sym g.net) (tile_more (omega arith) goes.tile)

      tris_is : (u : List ℕ) (x : ℕ) → (net_of u x).tris ≡ x
      unfolding net_of
      tris_is u x = refl

      pub grown_few : c + 5 ≤ 2 * n
      grown_few = let e : c ≡ q.net.tris = sym (tris_is w1 c) ∙ ap (λ (x : Net). x.tris) g.net in let f = more_few q.net goes.count in omega arith

      pub grown_newest : c - 1 < c
      grown_newest = let e = g.newest in omega arith

      pub grown_room : 64 * n ≤ length w1
      grown_room = let e = g.kept.len in let r = s.room in omega arith

      pub grown_ranks : Ranks ps w1
      grown_ranks i l = g.kept.ranks i ∙ s.ranks i l

      pub grown_ready : Ready ps c w1
      grown_ready = record { tiling = grown_tile; ranks = grown_ranks; few = grown_few; room = grown_room }

      -- after the flips
      pub next_stage : {w2 : List ℕ} {z' : ℕ} → Legal (point ps) (rank ps) (net_of w1 c) (stack w1 many) (c - 1) (net_of w2 c) z' → Kept n w1 w2 → Stage ps o (suc k) w2 c z'
      next_stage {w2} {z'} l t = record {
        figure = s.figure;
        room = (let e = t.len in let r = grown_room in omega arith);
        ranks = λ i b. t.ranks i ∙ grown_ranks i b;
        low = omega arith;
        builds = more s.builds (subst (λ (y : ℕ). Legal (point ps) (rank ps) q.net q.suspects y (net_of w2 c) z') (let e = g.newest in let f : c - 1 ≡ q.newest = omega arith in f)
            (subst (λ (y : List ℕ). Legal (point ps) (rank ps) q.net y (c - 1) (net_of w2 c) z') g.suspects
            (subst (λ (y : Net). Legal (point ps) (rank ps) y (stack w1 many) (c - 1) (net_of w2 c) z') g.net l)));
      }

-- the first stage
pub begun_stage : {ps : List ℤ} {w w' : List ℕ} → Figure ps → 64 * point_count ps ≤ length w → Ranks ps w → Begun ps w w' → Stage ps (net_of w 1) 3 w' 1 0
begun_stage {ps} {w} {w'} f r k b = record {
  figure = f;
  room = (let e = b.kept.len in omega arith);
  ranks = λ i l. b.kept.ranks i ∙ k i l;
  low = f.enough;
  builds = subst (λ (x : Net). BuildsTo ps (net_of w 1) 3 x 0) (sym b.net) alone;
}

-- the last stage
pub stage_done : {ps : List ℤ} {o : Net} {w w' : List ℕ} {T z : ℕ} → Stage ps o (point_count ps) w' T z → length w' ≡ length w →
    ((c : ℕ) → 64 * point_count ps ≤ c → get_or w' c 0 ≡ get_or w c 0) → Delaunay ps w w' T
stage_done {ps} {o} {w} {w'} {T} {z} s e r = record { steps = (o, z, s.builds); built = (z, stage_built s); ranks = s.ranks; size = e; rest = r }

-- ---- the base alone

module _ (ps : List ℤ) (w : List ℕ) (f : Figure ps) (r : 64 * point_count ps ≤ length w) where
  begun : (b c : ℕ) → b ≡ second_corner ps → c ≡ third_corner ps → b < 3 → c < 3 → Begun ps w (born w 0 (base_rec 0 b c))
  unfolding start net_of
  begun b c eb ec lb lc = record {
    net = net_born w 1 0 (base_rec 0 b c) (let e = f.enough in omega arith) ∙ ap₂ (λ (x y : ℕ). write (net_of w 1) 0 (base_rec 0 x y)) eb ec ∙ same;
    kept = born_kept (point_count ps) w 0 (base_rec 0 b c) (let e = f.enough in omega arith) (let e = f.enough in omega arith) (let e = f.enough in omega arith) (let e = f.enough in omega arith);
  }
    where
      same : write (net_of w 1) 0 (base_rec 0 (second_corner ps) (third_corner ps)) ≡ start (net_of w 1) 0 (second_corner ps) (third_corner ps)
      same = refl

  pub begun_turned : {w' : List ℕ} → clockwise ps ≡ true → w' ≡ born w 0 (base_rec 0 2 1) → Begun ps w w'
  begun_turned t e = subst (Begun ps w) (sym e) (begun 2 1 (sym (ap (λ (b : Bool). cond b 2 1) t)) (sym (ap (λ (b : Bool). cond b 1 2) t)) (omega arith) (omega arith))

  pub begun_plain : {w' : List ℕ} → clockwise ps ≡ false → w' ≡ born w 0 (base_rec 0 1 2) → Begun ps w w'
  begun_plain t e = subst (Begun ps w) (sym e) (begun 1 2 (sym (ap (λ (b : Bool). cond b 2 1) t)) (sym (ap (λ (b : Bool). cond b 1 2) t)) (omega arith) (omega arith))
