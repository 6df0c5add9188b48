-- The lists that the splits leave are what nets' specs/Location asks for. Assumes nothing.
use mathlib.Core.Bool.{Bool, cond}
use mathlib.Core.List.{List, [], ◌∷◌}
use mathlib.Core.Path.{◌≡◌, refl, sym, ap, ◌∙◌, subst}
use Prim.Native.Nat.{ℕ, zero, suc, ◌+◌, ◌-◌, ◌*◌, ◌/◌, ◌%◌, ◌<◌, ◌≤◌}
use native.Mathlib.Omega.{arith}
use lib.IntN.{ℤ, pos}
use lib.ListN.{length, get_or, set}
use Rattle.algebra.proofs.Tests.{by_test}
use Rattle.algebra.specs.Tests.{eq_z}
use Rattle.plane.specs.Determinants.{orient}
use Rattle.plane.specs.Halfedges.{nxt}
use Rattle.plane.specs.Points.{Pt}
use Rattle.tables.specs.Data.{point_count, point}
use Rattle.nets.specs.Layout.{cell, net_of, flag_cell, stack_cell, inside_list, side_list, edge_list, InRange, Kept}
use Rattle.nets.specs.Location.{inside_split, one_side, both_sides, edge_case, place_case, earlier, along, or_else, edge_at, split_in}
use Rattle.nets.specs.Nets.{Net}
use Rattle.nets.proofs.FlipTile.{tile_apart}
use Rattle.nets.proofs.Flip.{same_slot}
use Rattle.nets.proofs.Keeps.{kept_set, kept_then, kept_same, inside_kept, side_kept, edge_kept}
use Rattle.nets.proofs.Places.{net_set, tiling_range, inside_net, side_net, edge_net}
use Rattle.suspects.specs.Stack.{stack, Fresh, Suspects, pushed}
use Rattle.suspects.proofs.Stack.{stack_none, pushed_length, pushed_stack, pushed_suspects}
use Rattle.splitting.specs.Splits.{inside_pushed, side_pushed, edge_pushed, Tiled, Grown}

-- ---- pushes

-- w is w0 with the m suspects q on an empty stack
pub record Pushed (n count : ℕ) (w0 w : List ℕ) (m : ℕ) (q : List ℕ) : Type 0 where
  pub net : (T : ℕ) → net_of w T ≡ net_of w0 T
  pub size : length w ≡ length w0
  pub kept : Kept n w0 w
  pub stack_is : stack w m ≡ q
  pub ready : Suspects count w q

pub pushed_none : (n count : ℕ) (w : List ℕ) → Pushed n count w w 0 []
unfolding Suspects
pushed_none n count w = record { net = λ T. refl; size = refl; kept = kept_same n w; stack_is = stack_none w; ready = tt }

pub push_more : (n count : ℕ) (w0 w : List ℕ) (m s : ℕ) (q : List ℕ) → 64 * n ≤ length w0 → count ≤ 4 * n → m < count → s < count → Fresh s q →
    Pushed n count w0 w m q → Pushed n count w0 (pushed w m s) (m + 1) (s ∷ q)
unfolding pushed
push_more n count w0 w m s q r c mb sb f p = record {
  net = λ T. net_set (set w (stack_cell m) s) T (flag_cell s) 1 (let e : 9 ≤ (16 * s + 9) % 16 = omega arith in e)
      ∙ net_set w T (stack_cell m) s (let e : 9 ≤ (16 * m + 10) % 16 = omega arith in e) ∙ p.net T;
  size = pushed_length w m s ∙ p.size;
  kept = kept_then n w0 w (pushed w m s) p.kept
      (kept_then n w (set w (stack_cell m) s) (pushed w m s)
      (kept_set n w (stack_cell m) s (let e : 16 * m + 10 < 64 * n = omega arith in e) (let e : ¬ ((16 * m + 10) % 16 ≡ 11) = omega arith in e) (let e : (16 * m + 10) % 16 < 13 = omega arith in e))
      (kept_set n (set w (stack_cell m) s) (flag_cell s) 1 (let e : 16 * s + 9 < 64 * n = omega arith in e)
      (let e : ¬ ((16 * s + 9) % 16 ≡ 11) = omega arith in e) (let e : (16 * s + 9) % 16 < 13 = omega arith in e)));
  stack_is = pushed_stack w m s (let e = p.size in omega arith) ∙ ap (λ (x : List ℕ). s ∷ x) p.stack_is;
  ready = pushed_suspects w m s count q sb (let e = p.size in omega arith) f p.ready;
}

-- ---- what a tiling gives

module _ {ps : List ℤ} {k : ℕ} {w : List ℕ} {T : ℕ} (d : Tiled ps k w T) where
  abbrev n : ℕ
  n = point_count ps

  abbrev m : Net
  m = net_of w T

  pub in_range : InRange T w
  in_range = tiling_range n w T d.tile d.low d.room (let f = d.few in let k = d.low in omega arith) d.figure.few

  pub numbered : (h : ℕ) → h < 3 * T → (net_of w T).org h < n
  unfolding net_of
  numbered h b = let l = d.tile.corners h b in let k = d.low in omega arith

  few4 : T + 2 ≤ 4 * n
  few4 = let f = d.few in let k = d.low in omega arith

  few3 : T ≤ 4 * n
  few3 = let f = d.few in let k = d.low in omega arith

  pub more2 : 16 * (T + 2) ≤ length w
  more2 = let f = d.few in let k = d.low in let r = d.room in omega arith

  pub more1 : 16 * (T + 1) ≤ length w
  more1 = let f = d.few in let k = d.low in let r = d.room in omega arith

  pub slots : T + 2 ≤ 8192
  slots = let f = d.few in let k = d.low in let r = d.figure.few in omega arith

  module _ (kn : k < n) where
    pub inside_grown : (t : ℕ) → t < T → Grown ps w (inside_split m t k) (inside_pushed w T t k) (T + 2) 3
    unfolding inside_pushed net_of Fresh
    inside_grown t tb = record {
      net = c.net (T + 2) ∙ inside_net w T in_range t k tb more2;
      suspects = c.stack_is;
      newest = let e : T + 2 ≡ suc (T + 1) = omega arith in e;
      ready = subst (Suspects (T + 2) (inside_pushed w T t k)) (sym c.stack_is) c.ready;
      kept = kept_then n w w1 (inside_pushed w T t k) kept1 c.kept;
    }
      where
        w1 : List ℕ
        w1 = inside_list w T t k

        kept1 : Kept n w w1
        kept1 = inside_kept n w T few3 numbered in_range.partners k kn t tb few4

        room1 : 64 * n ≤ length w1
        room1 = let e = kept1.len in let r = d.room in omega arith

        a : Pushed n (T + 2) w1 (pushed w1 0 t) 1 (t ∷ [])
        a = push_more n (T + 2) w1 w1 0 t [] room1 few4 (omega arith) (omega arith) tt (pushed_none n (T + 2) w1)

        b : Pushed n (T + 2) w1 (pushed (pushed w1 0 t) 1 T) 2 (T ∷ t ∷ [])
        b = push_more n (T + 2) w1 (pushed w1 0 t) 1 T (t ∷ []) room1 few4 (omega arith) (omega arith) (let f : ¬ (t ≡ T) = omega arith in (f, tt)) a

        c : Pushed n (T + 2) w1 (pushed (pushed (pushed w1 0 t) 1 T) 2 (T + 1)) 3 ((T + 1) ∷ T ∷ t ∷ [])
        c = push_more n (T + 2) w1 (pushed (pushed w1 0 t) 1 T) 2 (T + 1) (T ∷ t ∷ []) room1 few4 (omega arith) (omega arith)
            (let f : ¬ (T ≡ T + 1) = omega arith in let g : ¬ (t ≡ T + 1) = omega arith in (f, (g, tt))) b

    pub side_grown : (h : ℕ) → h < 3 * T → Grown ps w (one_side m h k) (side_pushed w T h k) (T + 1) 2
    unfolding side_pushed net_of Fresh
    side_grown h hb = record {
      net = b.net (T + 1) ∙ side_net w T in_range h k hb more1;
      suspects = b.stack_is;
      newest = let e : T + 1 ≡ suc T = omega arith in e;
      ready = subst (Suspects (T + 1) (side_pushed w T h k)) (sym b.stack_is) b.ready;
      kept = kept_then n w w1 (side_pushed w T h k) kept1 b.kept;
    }
      where
        w1 : List ℕ
        w1 = side_list w T h k

        few5 : T + 1 ≤ 4 * n
        few5 = let f = few4 in omega arith

        kept1 : Kept n w w1
        kept1 = side_kept n w T few3 numbered in_range.partners k kn h hb few5

        room1 : 64 * n ≤ length w1
        room1 = let e = kept1.len in let r = d.room in omega arith

        a : Pushed n (T + 1) w1 (pushed w1 0 (h / 3)) 1 ((h / 3) ∷ [])
        a = push_more n (T + 1) w1 w1 0 (h / 3) [] room1 few5 (omega arith) (omega arith) tt (pushed_none n (T + 1) w1)

        b : Pushed n (T + 1) w1 (pushed (pushed w1 0 (h / 3)) 1 T) 2 (T ∷ (h / 3) ∷ [])
        b = push_more n (T + 1) w1 (pushed w1 0 (h / 3)) 1 T ((h / 3) ∷ []) room1 few5 (omega arith) (omega arith) (let f : ¬ (h / 3 ≡ T) = omega arith in (f, tt)) a

    pub edge_grown : (h g : ℕ) → h < 3 * T → m.adj h ≡ suc g → Grown ps w (both_sides m h g k) (edge_pushed w T h g k) (T + 2) 4
    unfolding edge_pushed net_of Fresh
    edge_grown h g hb e = record {
      net = c4.net (T + 2) ∙ edge_net w T in_range h g k hb gb more2;
      suspects = c4.stack_is;
      newest = let e : T + 2 ≡ suc (T + 1) = omega arith in e;
      ready = subst (Suspects (T + 2) (edge_pushed w T h g k)) (sym c4.stack_is) c4.ready;
      kept = kept_then n w w1 (edge_pushed w T h g k) kept1 c4.kept;
    }
      where
        gb : g < 3 * T
        gb = d.tile.linked.low h g hb e

        two : ¬ (g / 3 ≡ h / 3)
        two q = same_slot d.tile.linked (tile_apart d.tile) h g hb e q

        w1 : List ℕ
        w1 = edge_list w T h g k

        kept1 : Kept n w w1
        kept1 = edge_kept n w T few3 numbered in_range.partners k kn h g hb gb few4

        room1 : 64 * n ≤ length w1
        room1 = let e = kept1.len in let r = d.room in omega arith

        c1 : Pushed n (T + 2) w1 (pushed w1 0 (h / 3)) 1 ((h / 3) ∷ [])
        c1 = push_more n (T + 2) w1 w1 0 (h / 3) [] room1 few4 (omega arith) (omega arith) tt (pushed_none n (T + 2) w1)

        c2 : Pushed n (T + 2) w1 (pushed (pushed w1 0 (h / 3)) 1 T) 2 (T ∷ (h / 3) ∷ [])
        c2 = push_more n (T + 2) w1 (pushed w1 0 (h / 3)) 1 T ((h / 3) ∷ []) room1 few4 (omega arith) (omega arith) (let f : ¬ (h / 3 ≡ T) = omega arith in (f, tt)) c1

        c3 : Pushed n (T + 2) w1 (pushed (pushed (pushed w1 0 (h / 3)) 1 T) 2 (g / 3)) 3 ((g / 3) ∷ T ∷ (h / 3) ∷ [])
        c3 = push_more n (T + 2) w1 (pushed (pushed w1 0 (h / 3)) 1 T) 2 (g / 3) (T ∷ (h / 3) ∷ []) room1 few4 (omega arith)
            (let z = gb in omega arith) (let z = gb in let f : ¬ (T ≡ g / 3) = omega arith in (f, (λ q. two (sym q), tt))) c2

        c4 : Pushed n (T + 2) w1 (pushed (pushed (pushed (pushed w1 0 (h / 3)) 1 T) 2 (g / 3)) 3 (T + 1)) 4 ((T + 1) ∷ (g / 3) ∷ T ∷ (h / 3) ∷ [])
        c4 = push_more n (T + 2) w1 (pushed (pushed (pushed w1 0 (h / 3)) 1 T) 2 (g / 3)) 3 (T + 1) ((g / 3) ∷ T ∷ (h / 3) ∷ []) room1 few4
            (let z = T_big in omega arith) (omega arith) (let z = gb in let f : ¬ (g / 3 ≡ T + 1) = omega arith in
            let f' : ¬ (T ≡ T + 1) = omega arith in let f'' : ¬ (h / 3 ≡ T + 1) = omega arith in (f, (f', (f'', tt)))) c3
          where
            T_big : 2 ≤ T
            T_big = let z = gb in let t = two in let i : g / 3 < T = omega arith in let j : h / 3 < T = omega arith in omega arith

    mate_back : (h g : ℕ) → h < 3 * T → m.adj h ≡ suc g → m.adj g ≡ suc h
    unfolding net_of
    mate_back h g b e = d.tile.linked.back h g b e

    -- ---- the cases of split_at

    abbrev P : ℕ → Pt ℤ
    P = point ps

    long : 192 ≤ length w
    long = let e = d.figure.enough in let r = d.room in omega arith

    pub inside_asked : (t : ℕ) → t < T → InRange T w × ((t < T) × (k < 4096) × (16 * k + 16 ≤ length w) × (16 * (T + 2) ≤ length w) × (T + 2 ≤ 8192) × (48 ≤ length w))
    inside_asked t tb = (in_range, (tb, let f = d.figure.few in omega arith, let r = d.room in omega arith, more2, slots, let l = long in omega arith))

    pub side_asked : (h : ℕ) → h < 3 * T → InRange T w × ((h < 3 * T) × (k < 4096) × (16 * k + 16 ≤ length w) × (16 * (T + 1) ≤ length w) × (T + 1 ≤ 8192) × (48 ≤ length w))
    side_asked h hb = (in_range, (hb, let f = d.figure.few in omega arith, let r = d.room in omega arith, more1, let l = slots in omega arith, let l = long in omega arith))

    pub edge_asked : (h g : ℕ) → h < 3 * T → g < 3 * T → InRange T w ×
        ((h < 3 * T) × (g < 3 * T) × (k < 4096) × (16 * k + 16 ≤ length w) × (16 * (T + 2) ≤ length w) × (T + 2 ≤ 8192) × (64 ≤ length w))
    edge_asked h g hb gb = (in_range, (hb, gb, let f = d.figure.few in omega arith, let r = d.room in omega arith, more2, slots, let l = long in omega arith))

    module _ (t : ℕ) (tb : t < T) where
      -- the half-edge is one of the slot
      along_low : (h x : ℕ) → h < 3 * T → along P m (P k) h ≡ suc x → x < 3 * T
      along_low h x b e =
          by_test (eq_z (orient (P (m.org h)) (P (m.org (nxt h))) (P k)) (pos 0))
          (λ y. (let z : suc h ≡ suc x = sym (ap (λ (u : Bool). cond u (suc h) 0) y) ∙ e in omega arith))
          (λ y. absurd (let z : ◌≡◌ {A = ℕ} 0 (suc x) = sym (ap (λ (u : Bool). cond u (suc h) 0) y) ∙ e in let f : ⊥ = omega arith in f))

      or_low : (a b x : ℕ) → ((x : ℕ) → a ≡ suc x → x < 3 * T) → ((x : ℕ) → b ≡ suc x → x < 3 * T) → or_else a b ≡ suc x → x < 3 * T
      or_low zero b x f g e = g x e
      or_low (suc a) b x f g e = f x e

      pub edge_low : {h : ℕ} → suc h ≡ edge_at P m (P k) t → h < 3 * T
      unfolding edge_at
      edge_low {h} is =
          or_low (along P m (P k) (3 * t)) (or_else (along P m (P k) (3 * t + 1)) (along P m (P k) (3 * t + 2))) h (λ x. along_low (3 * t) x (omega arith))
          (λ x. or_low (along P m (P k) (3 * t + 1)) (along P m (P k) (3 * t + 2)) x (λ x. along_low (3 * t + 1) x (omega arith)) (λ x. along_low (3 * t + 2) x (omega arith)))
          (sym is)

      pub half_asked : {h : ℕ} → suc h ≡ edge_at P m (P k) t → (h < 24576) × (16 * (h / 3) + 16 ≤ length w)
      half_asked is = let l = edge_low is in let s = slots in let r = more1 in (omega arith, omega arith)

      pub at_inside : {w' : List ℕ} → 0 ≡ edge_at P m (P k) t → w' ≡ inside_pushed w T t k → Grown ps w (split_in P m t k) w' (T + 2) 3
      unfolding split_in
      at_inside {w'} is e =
          subst (λ (x : ℕ). Grown ps w (place_case m t x k) w' (T + 2) 3) is
          (subst (λ (u : List ℕ). Grown ps w (inside_split m t k) u (T + 2) 3) (sym e) (inside_grown t tb))

      module _ (h : ℕ) (is : suc h ≡ edge_at P m (P k) t) (a : ℕ) (at : a ≡ get_or w (cell 3 h) 0) where
        across : m.adj h ≡ a
        unfolding net_of
        across = sym at

        pub across_low : ¬ (a ≡ 0) → a - 1 < 3 * T
        unfolding net_of
        across_low z = d.tile.linked.low h (a - 1) (edge_low is) (across ∙ (let e : a ≡ suc (a - 1) = omega arith in e))

        pub at_side : {w' : List ℕ} → a ≡ 0 → w' ≡ side_pushed w T h k → Grown ps w (split_in P m t k) w' (T + 1) 2
        unfolding split_in
        at_side {w'} z e =
            subst (λ (x : ℕ). Grown ps w (place_case m t x k) w' (T + 1) 2) is
            (subst (λ (x : ℕ). Grown ps w (edge_case m h x k) w' (T + 1) 2) (sym (across ∙ z))
            (subst (λ (u : List ℕ). Grown ps w (one_side m h k) u (T + 1) 2) (sym e) (side_grown h (edge_low is))))

        pub at_edge : {w' : List ℕ} → ¬ (a ≡ 0) → w' ≡ cond (earlier m ((a - 1) / 3) (h / 3)) (edge_pushed w T (a - 1) h k) (edge_pushed w T h (a - 1) k) → Grown ps w (split_in P m t k) w' (T + 2) 4
        unfolding split_in
        at_edge {w'} z e =
            subst (λ (x : ℕ). Grown ps w (place_case m t x k) w' (T + 2) 4) is
            (subst (λ (x : ℕ). Grown ps w (edge_case m h x k) w' (T + 2) 4) (sym pair)
            (by_test (earlier m (g / 3) (h / 3))
            (λ y. subst (λ (b : Bool). Grown ps w (cond b (both_sides m g h k) (both_sides m h g k)) w' (T + 2) 4) (sym y)
            (subst (λ (u : List ℕ). Grown ps w (both_sides m g h k) u (T + 2) 4) (sym (e ∙ ap (λ (b : Bool). cond b (edge_pushed w T g h k) (edge_pushed w T h g k)) y)) (edge_grown g h gb back)))
            (λ y. subst (λ (b : Bool). Grown ps w (cond b (both_sides m g h k) (both_sides m h g k)) w' (T + 2) 4) (sym y)
            (subst (λ (u : List ℕ). Grown ps w (both_sides m h g k) u (T + 2) 4)
            (sym (e ∙ ap (λ (b : Bool). cond b (edge_pushed w T g h k) (edge_pushed w T h g k)) y)) (edge_grown h g (edge_low is) pair)))))
          where
            g : ℕ
            g = a - 1

            gb : g < 3 * T
            gb = across_low z

            pair : m.adj h ≡ suc g
            pair = across ∙ (let e : a ≡ suc (a - 1) = omega arith in e)

            back : m.adj g ≡ suc h
            back = mate_back h g (edge_low is) pair
