-- The search along the edges that leave u: every edge from u to v is below the link that is reached. Assumes nothing.
use mathlib.Core.Path.{◌≡◌, refl, sym, ap, ap₂, ◌∙◌}
use mathlib.Core.Bool.{Bool, false, ◌&&◌}
use mathlib.Core.List.{List}
use Prim.Native.Nat.{ℕ, suc, ◌+◌, ◌%◌, ◌≤◌, ◌<◌}
use native.Mathlib.Omega.{arith}
use borrow.Author.Tests.{eq-eqb, ne_eqb, eqb-true}
use lib.Dec.{eqb}
use lib.ListN.{length, get_or}
use Rattle.plane.specs.Halfedges.{nxt}
use Rattle.tables.specs.Rules.{corner, edge_is}
use Rattle.edges.specs.Index.{last_of, last_from, last_edge, found_at, Indexed}
use Rattle.std.specs.Prelude.{Some, None}
use Rattle.edges.proofs.Last.{last_yes, last_no, last_le, last_is, edge_skip}

pub record Reached (xs : List ℕ) (u v link : ℕ) : Type 0 where
  pub low : link ≤ length xs
  pub k : ℕ
  pub is : link ≡ last_from xs u k
  pub rest : last_edge xs u v (length xs) ≡ last_edge xs u v link

-- what the index tells of the edges that leave u below k
reached : (xs : List ℕ) (u v link k : ℕ) → k ≤ length xs → link ≡ last_from xs u k → last_edge xs u v (length xs) ≡ last_edge xs u v k → Reached xs u v link
reached xs u v link k l e r = record { low = let b = last_le (λ g. eqb (corner xs g) u) k in omega arith; k = k; is = e; rest = r ∙ edge_skip xs u v k ∙ ap (last_edge xs u v) (sym e) }

pub start : (n : ℕ) (xs w : List ℕ) (u v : ℕ) → u < n → Indexed n xs (length xs) w → Reached xs u v (get_or w u 0)
start n xs w u v l i = reached xs u v (get_or w u 0) (length xs) (omega arith) (i.heads u l) refl

module _ (xs : List ℕ) (u v link h : ℕ) (r : Reached xs u v link) (one : link ≡ suc h) where
  pub leaves : corner xs h ≡ u
  leaves = eqb-true (corner xs h) u (last_is (λ g. eqb (corner xs g) u) r.k h (sym r.is ∙ one))

  pub hit : corner xs (nxt h) ≡ v → Some h ≡ found_at (last_edge xs u v (length xs))
  hit e =
      sym (ap found_at (r.rest ∙ ap (last_edge xs u v) one ∙ last_yes (λ g. edge_is xs g u v) h (ap₂ (λ (a b : Bool). a && b) (eq-eqb (corner xs h) u leaves) (eq-eqb (corner xs (nxt h)) v e))))

  miss_test : (corner xs (nxt h) ≡ v → ⊥) → edge_is xs h u v ≡ false
  miss_test f = ap₂ (λ (a b : Bool). a && b) (eq-eqb (corner xs h) u leaves) (ne_eqb (corner xs (nxt h)) v f)

  module _ (n : ℕ) (w : List ℕ) (i : Indexed n xs (length xs) w) where
    linked : get_or w (n + h) 0 ≡ last_from xs u h
    linked = let a = r.low in i.links h (omega arith) ∙ ap (λ (x : ℕ). last_from xs x h) leaves

    pub miss : (corner xs (nxt h) ≡ v → ⊥) → Reached xs u v (get_or w (n + h) 0)
    miss f = let a = r.low in
        reached xs u v (get_or w (n + h) 0) h (omega arith) linked (r.rest ∙ ap (last_edge xs u v) one ∙ last_no (λ g. edge_is xs g u v) h (miss_test f))

    pub falls : get_or w (n + h) 0 < link
    falls = let d = last_le (λ g. eqb (corner xs g) u) h in let e = linked in omega arith

pub nowhere : (xs : List ℕ) (u v link : ℕ) → Reached xs u v link → link ≡ 0 → None ≡ found_at (last_edge xs u v (length xs))
unfolding last_of
nowhere xs u v link r e = sym (ap found_at (r.rest ∙ ap (last_edge xs u v) e))

-- the next edge of an edge of the list is in the list
pub nxt_low : (h k : ℕ) → h < k → k % 3 ≡ 0 → nxt h < k
unfolding nxt
nxt_low h k l e = omega arith
