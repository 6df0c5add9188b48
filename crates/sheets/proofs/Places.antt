-- The list of a net's triangles against the net: where no directed edge stands in two triangles, the half-edges of the list are those of
-- the net, one to one, a triangle's next edge to its next edge. Assumes nothing.
use mathlib.Core.List.{List}
use mathlib.Core.Path.{◌≡◌, sym, ap, ◌∙◌}
use Prim.Native.Nat.{ℕ, zero, suc, ◌+◌, ◌-◌, ◌*◌, ◌/◌, ◌%◌, ◌≤◌, ◌<◌}
use native.Mathlib.Decide.{dec_lt}
use native.Mathlib.Omega.{arith}
use lib.ListN.{get_or, get_or-eq_default}
use Rattle.sorts.specs.Items.{item}
use Rattle.sorts.proofs.Rows.{carried, Apart, apart_kept, words}
use Rattle.plane.specs.Halfedges.{nxt}
use Rattle.nets.specs.Nets.{Net, dst}
use Rattle.nets.proofs.Slot.{slot0, nxt_slot}
use Rattle.sheets.specs.Sheets.{triple, turned, Listed}
use Rattle.sheets.proofs.Leads.{rot, rot0, rot1, rot2, rot_slot, rot_nxt, rot_one, rot_onto, lead}
use Rattle.sheets.proofs.Triples.{turned_length, turned_at}

abbrev Words : List ℕ → Type 0
Words w = (i : ℕ) → get_or w i 0 < 4294967296

-- Number j of slot t's turned triple is the corner of a half-edge of the slot.
triple_at : (m : Net) (t j : ℕ) → j < 3 → get_or (triple m t) j 0 ≡ m.org (rot (lead m t).edge j)
triple_at m t zero h = rw rot0 (lead m t).first
triple_at m t (suc zero) h = rw rot1 (lead m t).second
triple_at m t (suc (suc zero)) h = rw rot2 (lead m t).third
triple_at m t (suc (suc (suc j))) h = absurd (omega arith)

module _ (m : Net) (xs : List ℕ) (l : Listed m xs) (small : (h : ℕ) → h < 3 * m.tris → m.org h < 4294967296)
    (once : (h g : ℕ) → h < 3 * m.tris → g < 3 * m.tris → m.org g ≡ m.org h → dst m g ≡ dst m h → g ≡ h) where
  abbrev T : ℕ
  T = m.tris

  abbrev ys : List ℕ
  ys = turned m T

  -- The half-edge at which slot t's turned triple starts.
  start : ℕ → ℕ
  start t = (lead m t).edge

  start_slot : (t : ℕ) → start t / 3 ≡ t
  unfolding start
  start_slot t = (lead m t).slot

  rot_low : (t j : ℕ) → t < T → rot (start t) j < 3 * T
  rot_low t j h = let a = rot_slot (start t) j in let b = start_slot t in omega arith

  ys_at : (t j : ℕ) → t < T → j < 3 → get_or ys (3 * t + j) 0 ≡ m.org (rot (start t) j)
  unfolding start
  ys_at t j h g = turned_at m T t j h g ∙ triple_at m t j g

  ys_small : Words ys
  ys_small p = elim (dec_lt p (3 * T)) [
    | yes h ↦ let e : 3 * (p / 3) + p % 3 ≡ p = omega arith in
        let a : get_or ys p 0 ≡ m.org (rot (start (p / 3)) (p % 3)) = rw e at (ys_at (p / 3) (p % 3) (omega arith) (omega arith)) in
        let b = small (rot (start (p / 3)) (p % 3)) (rot_low (p / 3) (p % 3) (omega arith)) in omega arith
    | no h ↦ let n = turned_length m T in let e = get_or-eq_default ys 0 {n = p} (omega arith) in omega arith
  ]

  -- ---- equal items are of one slot

  -- The words of equal items.
  same_words : (vs zs : List ℕ) → Words vs → Words zs → (a b : ℕ) → item vs (0 + 3 * a) ≡ item zs (0 + 3 * b) → (j : ℕ) → j < 3 → get_or vs (3 * a + j) 0 ≡ get_or zs (3 * b + j) 0
  same_words vs zs v z a b e j h = go j h
    where
      ea : 0 + 3 * a ≡ 3 * a
      ea = omega arith

      eb : 0 + 3 * b ≡ 3 * b
      eb = omega arith

      w : (get_or vs (3 * a) 0 ≡ get_or zs (3 * b) 0) × (get_or vs (3 * a + 1) 0 ≡ get_or zs (3 * b + 1) 0)
          × (get_or vs (3 * a + 2) 0 ≡ get_or zs (3 * b + 2) 0)
      w = words vs zs (3 * a) (3 * b) v z (rw (ea, eb) at e)

      go : (j : ℕ) → j < 3 → get_or vs (3 * a + j) 0 ≡ get_or zs (3 * b + j) 0
      go zero h = let p : 3 * a + 0 ≡ 3 * a = omega arith in let q : 3 * b + 0 ≡ 3 * b = omega arith in rw (p, q) w.0
      go (suc zero) h = w.1
      go (suc (suc zero)) h = w.2
      go (suc (suc (suc j))) h = absurd (omega arith)

  same_slot : (a b : ℕ) → a < T → b < T → item ys (0 + 3 * a) ≡ item ys (0 + 3 * b) → a ≡ b
  same_slot a b h g e =
      let w = same_words ys ys ys_small ys_small a b e in
      let at : (j : ℕ) → j < 3 → m.org (rot (start a) j) ≡ m.org (rot (start b) j) =
      λ j i. sym (ys_at a j h i) ∙ w j i ∙ ys_at b j g i in
      let o : m.org (start a) ≡ m.org (start b) = rw (rot0 (start a), rot0 (start b)) at (at 0 (omega arith)) in
      let d : dst m (start a) ≡ dst m (start b) = rw (rot1 (start a), rot1 (start b)) at (at 1 (omega arith)) in
      let sa = start_slot a in
      let sb = start_slot b in
      let q = once (start b) (start a) (omega arith) (omega arith) o d in
      sym sa ∙ ap (λ (x : ℕ). x / 3) q ∙ sb

  apart_slots : Apart ys 0 T
  apart_slots a b h g e = let q = same_slot a b (omega arith) g e in omega arith

  pub apart_list : Apart xs 0 T
  apart_list = apart_kept ys xs 0 0 T l.same apart_slots

  same_place : (a b : ℕ) → a < T → b < T → item xs (0 + 3 * a) ≡ item xs (0 + 3 * b) → a ≡ b
  same_place a b h g e = elim (dec_lt a b) [
    | yes p ↦ absurd (apart_list a b p g e)
    | no p ↦ elim (dec_lt b a) [ yes q ↦ absurd (apart_list b a q h (sym e)) | no q ↦ omega arith ]
  ]

  -- ---- the slot of each triple, and the place of each slot

  slot_by : (k : ℕ) → Dec (k < T) → ℕ
  slot_by k (yes h) = (carried ys xs 0 0 T l.same k h).k
  slot_by k (no h) = k

  pub slot : ℕ → ℕ
  slot k = slot_by k (dec_lt k T)

  record SlotIs (k s : ℕ) : Type 0 where
    low : s < T
    here : item ys (0 + 3 * s) ≡ item xs (0 + 3 * k)

  slot_is : (k : ℕ) → k < T → SlotIs k (slot k)
  unfolding slot slot_by
  slot_is k h = go (dec_lt k T)
    where
      go : (d : Dec (k < T)) → SlotIs k (slot_by k d)
      go (yes g) = let p = carried ys xs 0 0 T l.same k g in record { low = p.in_row; here = p.here }
      go (no g) = absurd (g h)

  pub slot_low : (k : ℕ) → k < T → slot k < T
  slot_low k h = (slot_is k h).low

  place_by : (t : ℕ) → Dec (t < T) → ℕ
  place_by t (yes h) = (carried xs ys 0 0 T (λ x. sym (l.same x)) t h).k
  place_by t (no h) = t

  pub place : ℕ → ℕ
  place t = place_by t (dec_lt t T)

  record PlaceIs (t k : ℕ) : Type 0 where
    low : k < T
    here : item xs (0 + 3 * k) ≡ item ys (0 + 3 * t)

  place_is : (t : ℕ) → t < T → PlaceIs t (place t)
  unfolding place place_by
  place_is t h = go (dec_lt t T)
    where
      go : (d : Dec (t < T)) → PlaceIs t (place_by t d)
      go (yes g) = let p = carried xs ys 0 0 T (λ x. sym (l.same x)) t g in record { low = p.in_row; here = p.here }
      go (no g) = absurd (g h)

  pub place_low : (t : ℕ) → t < T → place t < T
  place_low t h = (place_is t h).low

  pub slot_place : (t : ℕ) → t < T → slot (place t) ≡ t
  slot_place t h =
      let p = place_is t h in
      let s = slot_is (place t) p.low in
      same_slot (slot (place t)) t s.low h (s.here ∙ p.here)

  pub place_slot : (k : ℕ) → k < T → place (slot k) ≡ k
  place_slot k h =
      let s = slot_is k h in
      let p = place_is (slot k) s.low in
      same_place (place (slot k)) k p.low h (p.here ∙ s.here)

  -- ---- the half-edge of the net for each edge of the list

  pub to : ℕ → ℕ
  to h = rot (start (slot (h / 3))) (h % 3)

  to_slot : (h : ℕ) → to h / 3 ≡ slot (h / 3)
  unfolding to
  to_slot h = rot_slot (start (slot (h / 3))) (h % 3) ∙ start_slot (slot (h / 3))

  pub to_low : (h : ℕ) → h < 3 * T → to h < 3 * T
  to_low h g = let a = to_slot h in let b = slot_low (h / 3) (omega arith) in omega arith

  pub to_nxt : (h : ℕ) → to (nxt h) ≡ nxt (to h)
  unfolding to
  to_nxt h = rw nxt_slot (rot_nxt (start (slot (h / 3))) h)

  pub to_org : (h : ℕ) → h < 3 * T → get_or xs h 0 ≡ m.org (to h)
  unfolding to
  to_org h g =
      let e : 3 * (h / 3) + h % 3 ≡ h = omega arith in
      let k : h / 3 < T = omega arith in
      let s = slot_is (h / 3) k in
      let w = same_words xs ys l.words ys_small (h / 3) (slot (h / 3)) (sym s.here) (h % 3) (omega arith) in
      (rw e at w) ∙ ys_at (slot (h / 3)) (h % 3) s.low (omega arith)

  pub to_one : (h g : ℕ) → h < 3 * T → g < 3 * T → to h ≡ to g → h ≡ g
  unfolding to
  to_one h g lh lg e =
      let kh : h / 3 < T = omega arith in
      let kg : g / 3 < T = omega arith in
      let s : slot (h / 3) ≡ slot (g / 3) = sym (to_slot h) ∙ ap (λ (x : ℕ). x / 3) e ∙ to_slot g in
      let t : h / 3 ≡ g / 3 = sym (place_slot (h / 3) kh) ∙ ap place s ∙ place_slot (g / 3) kg in
      let q = e ∙ ap (λ (x : ℕ). rot (start x) (g % 3)) (sym s) in
      let j : h % 3 ≡ g % 3 = rot_one (start (slot (h / 3))) (h % 3) (g % 3) (omega arith) (omega arith) q in
      omega arith

  -- The edge of the list for half-edge x of the net.
  pub record Comes (x : ℕ) : Type 0 where
    pub h : ℕ
    pub low : h < 3 * T
    pub is : to h ≡ x

  pub comes : (x : ℕ) → x < 3 * T → Comes x
  unfolding to
  comes x g =
      let t : x / 3 < T = omega arith in
      let k = place (x / 3) in
      let e = start (slot k) in
      let j = (x % 3 + (3 - e % 3)) % 3 in
      let a : (3 * k + j) / 3 ≡ k = omega arith in
      let b : (3 * k + j) % 3 ≡ j = omega arith in
      let p = place_low (x / 3) t in
      record { h = 3 * k + j; low = omega arith; is = rw (a, b) (rot_onto e x (sym (start_slot (slot k) ∙ slot_place (x / 3) t))) }

  -- Triple t starts at its slot's least corner.
  pub record Starts (t : ℕ) : Type 0 where
    pub slot : to (3 * t) / 3 ≡ slot t
    pub low1 : m.org (to (3 * t)) ≤ m.org (nxt (to (3 * t)))
    pub low2 : m.org (to (3 * t)) ≤ m.org (nxt (nxt (to (3 * t))))

  pub to_start : (t : ℕ) → Starts t
  unfolding to start
  to_start t =
      let a = slot0 t in
      let b : 3 * t % 3 ≡ 0 = omega arith in
      let c : to (3 * t) ≡ (lead m (slot t)).edge = rw (a, b) (rot0 (lead m (slot t)).edge) in
      record { slot = ap (λ (x : ℕ). x / 3) c ∙ (lead m (slot t)).slot; low1 = rw c (lead m (slot t)).low1; low2 = rw c (lead m (slot t)).low2 }
