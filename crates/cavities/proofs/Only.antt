-- A recovery marks no new edge. Each small change is shown to keep that the marked edges are among the pairs of May: what moves takes its
-- mark along between the same ends, and what is new is unmarked; then the walk, the arrival and the filling of both sides. Assumes nothing.
use mathlib.Core.Bool.{true}
use mathlib.Core.Path.{◌≡◌, refl, sym, ap, ◌∙◌, subst}
use Prim.Native.Nat.{ℕ, suc, ◌+◌, ◌*◌, ◌<◌}
use native.Mathlib.Decide.{ℕ_discrete}
use native.Mathlib.Omega.{arith}
use Rattle.cavities.specs.Changes.{Wrote, Joined, Dropped, Parked, Moved}
use Rattle.cavities.specs.Closings.{Opened, Closing}
use Rattle.cavities.specs.Corridors.{In, Three, Figure, Walk, start, left, right, Arrive, Tiled, Strip}
use Rattle.cavities.specs.Fillings.{Slots, Fill, gap, node, Ready}
use Rattle.cavities.specs.Nets.{Net, Live, World}
use Rattle.cavities.specs.Traces.{Only}
use Rattle.cavities.proofs.Close.{left_ready, right_ready, root_org, root_dst, org2, dst2, live3}
use Rattle.cavities.proofs.Fill.{fill_done, fill_part, fill_slots, fill_top, le_self, ready_left, ready_right}
use Rattle.cavities.proofs.Steps.{not_same}
use Rattle.cavities.proofs.Strip.{parts}
use Rattle.cavities.proofs.Walk.{in_live, in_gap, in_new, not_vt, walk_strip}

module _ (May : ℕ → ℕ → Type 0) where
  -- ---- the small changes

  -- a half-edge that has the ends and the mark of an allowed one
  by_ends : {p q p' q' k k' : ℕ} → p' ≡ p → q' ≡ q → k' ≡ k → (¬ (k ≡ 0) → May p q) → ¬ (k' ≡ 0) → May p' q'
  by_ends {q = q} {p' = p'} e f g a z = subst (May p') (sym f) (subst (λ (x : ℕ). May x q) (sym e) (a (λ y. z (g ∙ y))))

  pub wrote_only : {σ σ' : Net} → Wrote σ σ' → Only May σ → Only May σ'
  wrote_only w a h l = let k = sym (w.live h) ∙ l in let s = w.same h k in by_ends s.org s.dst s.mark (a h k)

  dropped_only : {σ σ' : Net} {x y : ℕ} → Dropped σ σ' x y → Only May σ → Only May σ'
  dropped_only {σ} {σ'} {x} {y} d a h l =
      let s = d.same h in
      by_ends s.org s.dst s.mark (a h (sym (d.live h (not_same σ' h x l d.dead_x) (not_same σ' h y l d.dead_y)) ∙ l))

  joined_only : {σ σ' : Net} {x y : ℕ} → Joined σ σ' x y → Only May σ → Only May σ'
  joined_only {σ} {σ'} {x} {y} j a h l z = go (ℕ_discrete h x) (ℕ_discrete h y)
    where
      go : Dec (h ≡ x) → Dec (h ≡ y) → May (σ'.org h) (σ'.dst h)
      go (yes e) d = absurd (z (ap σ'.mark e ∙ j.mark_x))
      go (no n) (yes e) = absurd (z (ap σ'.mark e ∙ j.mark_y))
      go (no n) (no m) = let s = j.same h n m in by_ends s.org s.dst s.mark (a h (sym (j.live h n m) ∙ l)) z

  parked_only : {σ σ' : Net} {o v : ℕ} → Live σ o → Parked σ σ' o v → Only May σ → Only May σ'
  parked_only {σ} {σ'} {o} {v} lo p a h l = go (ℕ_discrete h v)
    where
      go : Dec (h ≡ v) → ¬ (σ'.mark h ≡ 0) → May (σ'.org h) (σ'.dst h)
      go (yes e) = by_ends (ap σ'.org e ∙ p.org_v) (ap σ'.dst e ∙ p.dst_v) (ap σ'.mark e ∙ p.mark_v) (a o lo)
      go (no n) = by_ends (p.org h n) (p.dst h n) (p.mark h n) (a h (sym (p.live h (not_same σ' h o l p.dead_o) n) ∙ l))

  moved_only : {σ σ' : Net} {o v : ℕ} → Live σ o → σ.org v ≡ σ.org o → σ.dst v ≡ σ.dst o → Moved σ σ' o v → Only May σ → Only May σ'
  moved_only {σ} {σ'} {o} {v} lo eo ed p a h l = go (ℕ_discrete h v)
    where
      go : Dec (h ≡ v) → ¬ (σ'.mark h ≡ 0) → May (σ'.org h) (σ'.dst h)
      go (yes e) = by_ends (p.org h ∙ ap σ.org e ∙ eo) (p.dst h ∙ ap σ.dst e ∙ ed) (ap σ'.mark e ∙ p.mark_v) (a o lo)
      go (no n) = by_ends (p.org h) (p.dst h) (p.mark h n) (a h (sym (p.live h (not_same σ' h o l p.dead_o) n) ∙ l))

  -- ---- the filling

  module _ (W : World) (Ccw : ℕ → ℕ → ℕ → Type 0) (c gp slot : ℕ → ℕ) where
    fill_only : {i j p q P : ℕ} {σ σ' : Net} → Fill Ccw c gp slot i j p q P σ σ' → Ready W c gp slot i j p q P σ → Only May σ → Only May σ'
    fill_only (gap {i = i} m) rdy a =
        moved_only (rdy.gap_live (gp i) (record { at = i; low = le_self; high = le_self; is = refl }))
        (rdy.top_org ∙ sym (rdy.gap_org i le_self le_self)) (rdy.top_dst ∙ sym (rdy.gap_dst i le_self le_self)) m a
    fill_only (node {i = i} {k = k} {j = j} {p = p} {q = q} {r = r} {P = P} {σ = σ} {σ0 = σ0} {σ1 = σ1} {σ2 = σ2} {σ3 = σ3} t w f g e) rdy a =
        let pq = fill_slots Ccw c gp slot f in
        let qr = fill_slots Ccw c gp slot g in
        let ik = fill_part Ccw c gp slot f in
        let kj = fill_part Ccw c gp slot g in
        let rl = ready_left W Ccw c gp slot i k j p q r P σ σ0 rdy t w pq qr ik kj in
        let rr = ready_right W Ccw c gp slot i k j p q r P σ σ0 rdy t w pq qr ik kj σ1 (fill_done W Ccw c gp slot f rl) in
        joined_only e (fill_only g rr (fill_only f rl (wrote_only w.wrote a)))

    pub closing_only : (n m q r PL PR : ℕ) (σ σ1 σ2 σ3 σ4 : Net) → Opened W c gp slot n m r PL PR σ → Closing Ccw c gp slot n m q r PL PR σ σ1 σ2 σ3 σ4 → Only May σ → Only May σ4
    closing_only n m q r PL PR σ σ1 σ2 σ3 σ4 opn act a =
        let nm = fill_part Ccw c gp slot act.right in
        let rl = left_ready W Ccw c gp slot n m q r PL PR σ opn act.some nm in
        let dl = fill_done W Ccw c gp slot act.left rl in
        let rr = right_ready W Ccw c gp slot n m q r PL PR σ opn act.some nm σ1 dl in
        let dr = fill_done W Ccw c gp slot act.right rr in
        let top = fill_top Ccw c gp slot act.right r refl act.some in
        let drop = act.drop in
        moved_only (live3 W Ccw c gp slot n m q r PL PR σ opn act.some nm σ1 dl σ2 dr top σ3 drop)
        ((drop.same (3 * slot r)).org ∙ root_org W Ccw c gp slot n m q r PL PR σ opn act.some nm σ1 dl σ2 dr top
        ∙ sym ((drop.same PL).org ∙ org2 W Ccw c gp slot n m q r PL PR σ opn act.some nm σ1 dl σ2 dr top PL opn.left_out ∙ opn.left_org))
        ((drop.same (3 * slot r)).dst ∙ root_dst W Ccw c gp slot n m q r PL PR σ opn act.some nm σ1 dl σ2 dr top
        ∙ sym ((drop.same PL).dst ∙ dst2 W Ccw c gp slot n m q r PL PR σ opn act.some nm σ1 dl σ2 dr top PL opn.left_out ∙ opn.left_dst))
        act.move (dropped_only drop (fill_only act.right rr (fill_only act.left rl a)))

  -- ---- the walk

  module _ (W : World) (Ccw : ℕ → ℕ → ℕ → Type 0) (F : Figure) (t cap : ℕ) (σ : Net) (til : Tiled W Ccw F.vt t cap σ) where
    -- an edge of the triangle that is entered lives still when the pair that is crossed is dropped
    beside : (n l r x f g : ℕ) (σ1 σ2 : Net) → Strip W F t n l r x σ σ1 → suc n < cap → σ1.has x ≡ true → σ1.mark x ≡ 0 →
        Three (F.slot n) (σ1.mate x) f g → F.slot n < t → Dropped σ1 σ2 x (σ1.mate x) → (h : ℕ) → In (F.slot n) h → ¬ (h ≡ σ1.mate x) → Live σ2 h
    beside n l r x f g σ1 σ2 st fits has plain three small drop h i k =
        let new = in_new W Ccw F t cap σ til n l r x f g σ1 st fits has plain three small h i in
        let not-gap = in_gap W Ccw F t cap σ til n l r x f g σ1 st fits has plain three small h i in
        drop.live h (λ q. new (subst (Slots F.slot 0 n) (sym q) st.core.exit_in)) k ∙ st.core.live h new not-gap
        ∙ in_live W Ccw F t cap σ til n l r x f g σ1 st fits has plain three small h i

    first_live : {f x g : ℕ} → Three (F.slot 0) f x g → F.slot 0 < t → (h : ℕ) → In (F.slot 0) h → Live σ h
    first_live three small h i = til.live h (low (F.slot 0) i.k h small i.three i.is)
      where
        low : (s k h : ℕ) → s < t → k < 3 → h ≡ 3 * s + k → h < 3 * t
        low s k h a b e = omega arith

    pub walk_only : {n l r x : ℕ} {σ' : Net} → n < cap → Walk F t n l r x σ σ' → Only May σ → Only May σ'
    walk_only fits (start {f = f} {g = g} {σ1 = σ1} three small o o' o'' o''' s s' e e' p p') a =
        let lg = first_live three small g (parts three).in_g in
        let lf = first_live three small f (parts three).in_e in
        parked_only (p.live f (parts three).eg (not_same σ f (F.vt 0) lf (til.dead 0 (omega arith))) ∙ lf) p' (parked_only lg p a)
    walk_only fits (left {n = n} {l = l} {r = r} {x = x} {f = f} {g = g} {σ1 = σ1} {σ2 = σ2} w has plain three small o s e drop park) a =
        let st = walk_strip W Ccw F t cap til (omega arith) w in
        parked_only (beside n l r x f g σ1 σ2 st fits has plain three small drop g (parts three).in_g (λ q. (parts three).eg (sym q))) park (dropped_only drop (walk_only (omega arith) w a))
    walk_only fits (right {n = n} {l = l} {r = r} {x = x} {f = f} {g = g} {σ1 = σ1} {σ2 = σ2} w has plain three small o s e drop park) a =
        let st = walk_strip W Ccw F t cap til (omega arith) w in
        parked_only (beside n l r x f g σ1 σ2 st fits has plain three small drop f (parts three).in_f (λ q. (parts three).ef (sym q))) park (dropped_only drop (walk_only (omega arith) w a))

    pub arrive_only : (n l r x f g : ℕ) (σ1 σ2 σ3 σ4 : Net) → suc (suc n) < cap → Strip W F t n l r x σ σ1 → Arrive F t n l r x f g σ1 σ2 σ3 σ4 → Only May σ1 → Only May σ4
    arrive_only n l r x f g σ1 σ2 σ3 σ4 fits st a k =
        let prt = parts a.three in
        let lg = beside n l r x f g σ1 σ2 st (omega arith) a.has a.plain a.three a.small a.drop g prt.in_g (λ q. prt.eg (sym q)) in
        let lf = beside n l r x f g σ1 σ2 st (omega arith) a.has a.plain a.three a.small a.drop f prt.in_f (λ q. prt.ef (sym q)) in
        let fv = not_vt W Ccw F t cap σ til n l r x f g σ1 st (omega arith) a.has a.plain a.three a.small f prt.in_f (suc n) (omega arith) in
        parked_only (a.park.live f prt.fg fv ∙ lf) a.park' (parked_only lg a.park (dropped_only a.drop k))
