-- The filling of one side of a cavity: a chain of corners c i .. c j, a live half-edge gp x from c (x + 1) to c x for each gap, dead
-- slots for the new triangles. A node over i .. j takes the corner k for its apex, fills i .. k and k .. j, and becomes the partner of
-- the half-edge above it; at a gap the half-edge above takes the gap's place. Assumes nothing.
use mathlib.Core.Bool.{true}
use mathlib.Core.Path.{◌≡◌, refl, sym, ap, ◌∙◌, subst}
use Prim.Native.Nat.{ℕ, suc, ◌+◌, ◌*◌, ◌≤◌, ◌<◌}
use native.Mathlib.Decide.{ℕ_discrete, dec_lt}
use native.Mathlib.Omega.{arith}
use Rattle.cavities.specs.Changes.{Joined, Moved}
use Rattle.cavities.specs.Fillings.{Corners, Slots, Gaps, Cut, Fill, gap, node, Tri, Ready, Done}
use Rattle.cavities.specs.Nets.{Net, Live, Dead, World, Inv}
use Rattle.cavities.proofs.Net.{clash}
use Rattle.cavities.proofs.Steps.{wrote_inv, joined_inv, moved_inv}

pub le_self : {n : ℕ} → n ≤ n
le_self {n} = omega arith

pub none_between : {X : Type 0} (p y : ℕ) → p ≤ y → y < p → X
none_between p y l h = absurd (no_way p y l h)
  where
    no_way : (p y : ℕ) → p ≤ y → y < p → ⊥
    no_way p y l h = omega arith

module _ (Ccw : ℕ → ℕ → ℕ → Type 0) (c gp slot : ℕ → ℕ) where
  -- one triangle for each corner between the ends
  pub fill_count : {i j p q P : ℕ} {σ σ' : Net} → Fill Ccw c gp slot i j p q P σ σ' → q + suc i ≡ p + j
  fill_count (gap m) = refl
  fill_count (node {i = i} {k = k} {j = j} {p = p} {q = q} {r = r} o w f g e) = let x = fill_count f in let y = fill_count g in omega arith

  pub fill_slots : {i j p q P : ℕ} {σ σ' : Net} → Fill Ccw c gp slot i j p q P σ σ' → p ≤ q
  fill_slots (gap {p = p} m) = le_self
  fill_slots (node {p = p} {q = q} {r = r} o w f g e) = let x = fill_slots f in let y = fill_slots g in omega arith

  pub fill_part : {i j p q P : ℕ} {σ σ' : Net} → Fill Ccw c gp slot i j p q P σ σ' → i < j
  fill_part (gap m) = le_self
  fill_part (node {i = i} {k = k} {j = j} o w f g e) = let x = fill_part f in let y = fill_part g in omega arith

  -- the half-edge above a node is the partner of its edge 0
  pub fill_top : {i j p q P : ℕ} {σ σ' : Net} → Fill Ccw c gp slot i j p q P σ σ' → (r : ℕ) → q ≡ suc r → p ≤ r → (σ'.has P ≡ true) × (σ'.mate P ≡ 3 * slot r) × (σ'.mark P ≡ 0)
  fill_top (gap {p = p} m) r e l = none_between p r l (omega arith)
  fill_top (node {r = t} o w f g j) r e l = let q : t ≡ r = omega arith in (j.has_y, j.mate_y ∙ ap (λ (x : ℕ). 3 * slot x) q, j.mark_y)

ccw_by : (Ccw : ℕ → ℕ → ℕ → Type 0) {a b c a' b' c' : ℕ} → a ≡ a' → b ≡ b' → c ≡ c' → Ccw a' b' c' → Ccw a b c
ccw_by Ccw e f g h = subst (λ (X : Type 0). X) (sym (λ t. Ccw (e t) (f t) (g t))) h

pub is0 : (s : ℕ) → 3 * s ≡ 3 * s + 0
is0 s = omega arith

pub lt0 : 0 < 3
lt0 = omega arith

pub lt1 : 1 < 3
lt1 = omega arith

pub lt2 : 2 < 3
lt2 = omega arith

pub tri_same : (Ccw : ℕ → ℕ → ℕ → Type 0) (σ σ' : Net) (s : ℕ) → ((h d : ℕ) → d < 3 → h ≡ 3 * s + d → σ'.org h ≡ σ.org h) →
    ((h d : ℕ) → d < 3 → h ≡ 3 * s + d → σ'.dst h ≡ σ.dst h) → Tri Ccw σ s → Tri Ccw σ' s
tri_same Ccw σ σ' s o d t = record {
  dst0 = d (3 * s) 0 lt0 (is0 s) ∙ t.dst0 ∙ sym (o (3 * s + 1) 1 lt1 refl);
  dst1 = d (3 * s + 1) 1 lt1 refl ∙ t.dst1 ∙ sym (o (3 * s + 2) 2 lt2 refl);
  dst2 = d (3 * s + 2) 2 lt2 refl ∙ t.dst2 ∙ sym (o (3 * s) 0 lt0 (is0 s));
  ccw = ccw_by Ccw (o (3 * s) 0 lt0 (is0 s)) (o (3 * s + 1) 1 lt1 refl) (o (3 * s + 2) 2 lt2 refl) t.ccw;
}

tri_of : (Ccw : ℕ → ℕ → ℕ → Type 0) (σ : Net) (s a b c : ℕ) → Ccw a b c → Corners σ s a b c → Tri Ccw σ s
tri_of Ccw σ s a b c t k = record {
  dst0 = k.dst0 ∙ sym k.org1;
  dst1 = k.dst1 ∙ sym k.org2;
  dst2 = k.dst2 ∙ sym k.org0;
  ccw = ccw_by Ccw k.org0 k.org1 k.org2 t;
}

pub same_slot : (a b k l : ℕ) → k < 3 → l < 3 → 3 * a + k ≡ 3 * b + l → a ≡ b
same_slot a b k l h m e = omega arith

same_place : (a b k l : ℕ) → a ≡ b → k < 3 → l < 3 → 3 * a + k ≡ 3 * b + l → k ≡ l
same_place a b k l e h m q = omega arith

module _ (W : World) (Ccw : ℕ → ℕ → ℕ → Type 0) (c gp slot : ℕ → ℕ) where
  gap_done : (i p P : ℕ) (σ σ' : Net) → Ready W c gp slot i (suc i) p p P σ → Moved σ σ' (gp i) P → Done W Ccw gp slot i (suc i) p p P σ σ'
  gap_done i p P σ σ' rdy m = record {
    inv = moved_inv W σ σ' (gp i) P (rdy.gap_live (gp i) here) rdy.top_dead rdy.top_low (rdy.top_org ∙ sym (rdy.gap_org i le_self le_self))
        (rdy.top_dst ∙ sym (rdy.gap_dst i le_self le_self)) m rdy.inv;
    top_live = m.live_v;
    gap_dead = λ h g. ap σ'.live (g.is ∙ ap gp (only g.at g.low g.high)) ∙ m.dead_o;
    slot_live = λ h y. none_between p y.at y.low y.high;
    live = λ h n g y. m.live h (λ e. g (record { at = i; low = le_self; high = le_self; is = e })) n;
    org = λ h y. m.org h;
    dst = λ h y. m.dst h;
    tri = λ y l h. none_between p y l h;
  }
    where
      here : Gaps gp i (suc i) (gp i)
      here = record { at = i; low = le_self; high = le_self; is = refl }

      only : (x : ℕ) → i ≤ x → x < suc i → x ≡ i
      only x l h = omega arith

  module _ (i k j p q r P : ℕ) (σ σ0 : Net) (rdy : Ready W c gp slot i j p (suc r) P σ) (turns : Ccw (c i) (c j) (c k))
      (cut : Cut σ σ0 (slot r) (c i) (c j) (c k)) (pq : p ≤ q) (qr : q ≤ r) (ik : i < k) (kj : k < j) where
    own : (d : ℕ) → d < 3 → Slots slot p (suc r) (3 * slot r + d)
    own d l = record { at = r; k = d; low = omega arith; high = le_self; three = l; is = refl }

    in_left : (h : ℕ) → Slots slot p q h → Slots slot p (suc r) h
    in_left h y = record { at = y.at; k = y.k; low = y.low; high = omega arith; three = y.three; is = y.is }

    in_right : (h : ℕ) → Slots slot q r h → Slots slot p (suc r) h
    in_right h y = record { at = y.at; k = y.k; low = omega arith; high = omega arith; three = y.three; is = y.is }

    gap_left : (h : ℕ) → Gaps gp i k h → Gaps gp i j h
    gap_left h g = record { at = g.at; low = g.low; high = omega arith; is = g.is }

    gap_right : (h : ℕ) → Gaps gp k j h → Gaps gp i j h
    gap_right h g = record { at = g.at; low = omega arith; high = g.high; is = g.is }

    -- gaps and slots are apart, and so are the slots
    gap_slot : (h : ℕ) → Gaps gp i j h → Slots slot p (suc r) h → ⊥
    gap_slot h g y = clash (rdy.gap_live h g) (rdy.slot_dead h y)

    gap_own : (h : ℕ) → Gaps gp i j h → (d : ℕ) → d < 3 → ¬ (h ≡ 3 * slot r + d)
    gap_own h g d l e = gap_slot h g (subst (Slots slot p (suc r)) (sym e) (own d l))

    gap_top : (h : ℕ) → Gaps gp i j h → ¬ (h ≡ P)
    gap_top h g e = clash (rdy.gap_live h g) (ap σ.live e ∙ rdy.top_dead)

    gap_gap : (h : ℕ) → Gaps gp i k h → Gaps gp k j h → ⊥
    gap_gap h a b = let e = rdy.gap_apart a.at b.at a.low (omega arith) (omega arith) b.high (sym a.is ∙ b.is) in omega arith

    at_same : (a b d e : ℕ) → p ≤ a → a < suc r → p ≤ b → b < suc r → d < 3 → e < 3 → 3 * slot a + d ≡ 3 * slot b + e → a ≡ b
    at_same a b d e la ha lb hb ld le q = rdy.slot_apart a b la ha lb hb (same_slot (slot a) (slot b) d e ld le q)

    left_right : (h : ℕ) → Slots slot p q h → Slots slot q r h → ⊥
    left_right h a b = let e = at_same a.at b.at a.k b.k a.low (omega arith) (omega arith) (omega arith) a.three b.three (sym a.is ∙ b.is) in omega arith

    left_own : (h : ℕ) → Slots slot p q h → (d : ℕ) → d < 3 → ¬ (h ≡ 3 * slot r + d)
    left_own h a d l e = let x = at_same a.at r a.k d a.low (omega arith) (omega arith) le_self a.three l (sym a.is ∙ e) in omega arith

    right_own : (h : ℕ) → Slots slot q r h → (d : ℕ) → d < 3 → ¬ (h ≡ 3 * slot r + d)
    right_own h a d l e = let x = at_same a.at r a.k d (omega arith) (omega arith) (omega arith) le_self a.three l (sym a.is ∙ e) in omega arith

    pub top_own : (d : ℕ) → d < 3 → ¬ (P ≡ 3 * slot r + d)
    top_own d l e = rdy.top_out (subst (Slots slot p (suc r)) (sym e) (own d l))

    own0 : Slots slot p (suc r) (3 * slot r)
    own0 = record { at = r; k = 0; low = omega arith; high = le_self; three = lt0; is = omega arith }

    not12 : ¬ (3 * slot r + 1 ≡ 3 * slot r + 2)
    not12 e = omega arith

    not21 : ¬ (3 * slot r + 2 ≡ 3 * slot r + 1)
    not21 e = omega arith

    not01 : ¬ (3 * slot r ≡ 3 * slot r + 1)
    not01 e = omega arith

    not02 : ¬ (3 * slot r ≡ 3 * slot r + 2)
    not02 e = omega arith

    own_left : (d : ℕ) → d < 3 → ¬ Slots slot p q (3 * slot r + d)
    own_left d l y = left_own (3 * slot r + d) y d l refl

    own_right : (d : ℕ) → d < 3 → ¬ Slots slot q r (3 * slot r + d)
    own_right d l y = right_own (3 * slot r + d) y d l refl

    pub ready_left : Ready W c gp slot i k p q (3 * slot r + 2) σ0
    ready_left = record {
      inv = wrote_inv W σ σ0 cut.wrote rdy.inv;
      gap_live = λ h g. cut.wrote.live h ∙ rdy.gap_live h (gap_left h g);
      gap_apart = λ x y a b d e. rdy.gap_apart x y a (omega arith) d (omega arith);
      gap_org = λ x l m. cut.org (gp x) (gap_own (gp x) (record { at = x; low = l; high = omega arith; is = refl })) ∙ rdy.gap_org x l (omega arith);
      gap_dst = λ x l m. cut.dst (gp x) (gap_own (gp x) (record { at = x; low = l; high = omega arith; is = refl })) ∙ rdy.gap_dst x l (omega arith);
      slot_dead = λ h y. cut.wrote.live h ∙ rdy.slot_dead h (in_left h y);
      slot_low = λ h y. rdy.slot_low h (in_left h y);
      slot_apart = λ y z a b d e. rdy.slot_apart y z a (omega arith) d (omega arith);
      top_dead = cut.wrote.live (3 * slot r + 2) ∙ rdy.slot_dead (3 * slot r + 2) (own 2 lt2);
      top_low = rdy.slot_low (3 * slot r + 2) (own 2 lt2);
      top_org = cut.corners.org2;
      top_dst = cut.corners.dst2;
      top_out = own_left 2 lt2;
    }

    -- the left part is filled
    module _ (σ1 : Net) (dl : Done W Ccw gp slot i k p q (3 * slot r + 2) σ0 σ1) where
      live1 : (h : ℕ) → ¬ (h ≡ 3 * slot r + 2) → ¬ Gaps gp i k h → ¬ Slots slot p q h → σ1.live h ≡ σ.live h
      live1 h a b d = dl.live h a b d ∙ cut.wrote.live h

      pub ready_right : Ready W c gp slot k j q r (3 * slot r + 1) σ1
      ready_right = record {
        inv = dl.inv;
        gap_live = λ h g. live1 h (gap_own h (gap_right h g) 2 lt2) (λ a. gap_gap h a g) (λ y. gap_slot h (gap_right h g) (in_left h y)) ∙ rdy.gap_live h (gap_right h g);
        gap_apart = λ x y a b d e. rdy.gap_apart x y (omega arith) b (omega arith) e;
        gap_org = λ x l m. dl.org (gp x) (λ y. gap_slot (gp x) (at x l m) (in_left (gp x) y)) ∙ cut.org (gp x) (gap_own (gp x) (at x l m)) ∙ rdy.gap_org x (omega arith) m;
        gap_dst = λ x l m. dl.dst (gp x) (λ y. gap_slot (gp x) (at x l m) (in_left (gp x) y)) ∙ cut.dst (gp x) (gap_own (gp x) (at x l m)) ∙ rdy.gap_dst x (omega arith) m;
        slot_dead = λ h y. live1 h (right_own h y 2 lt2) (λ g. gap_slot h (gap_left h g) (in_right h y)) (λ a. left_right h a y) ∙ rdy.slot_dead h (in_right h y);
        slot_low = λ h y. rdy.slot_low h (in_right h y);
        slot_apart = λ y z a b d e. rdy.slot_apart y z (omega arith) (omega arith) (omega arith) (omega arith);
        top_dead = live1 (3 * slot r + 1) not12 (λ g. gap_slot (3 * slot r + 1) (gap_left (3 * slot r + 1) g) (own 1 lt1)) (own_left 1 lt1) ∙ rdy.slot_dead (3 * slot r + 1) (own 1 lt1);
        top_low = rdy.slot_low (3 * slot r + 1) (own 1 lt1);
        top_org = dl.org (3 * slot r + 1) (own_left 1 lt1) ∙ cut.corners.org1;
        top_dst = dl.dst (3 * slot r + 1) (own_left 1 lt1) ∙ cut.corners.dst1;
        top_out = own_right 1 lt1;
      }
        where
          at : (x : ℕ) → k ≤ x → x < j → Gaps gp i j (gp x)
          at x l m = record { at = x; low = omega arith; high = m; is = refl }

      -- and the right part
      module _ (σ2 : Net) (dr : Done W Ccw gp slot k j q r (3 * slot r + 1) σ1 σ2) where
        live2 : (h : ℕ) → ¬ (h ≡ 3 * slot r + 2) → ¬ (h ≡ 3 * slot r + 1) → ¬ Gaps gp i j h → ¬ Slots slot p q h → ¬ Slots slot q r h → σ2.live h ≡ σ.live h
        live2 h a b g x y = dr.live h b (λ z. g (gap_right h z)) y ∙ live1 h a (λ z. g (gap_left h z)) x

        org2 : (h : ℕ) → ¬ Slots slot p q h → ¬ Slots slot q r h → σ2.org h ≡ σ0.org h
        org2 h x y = dr.org h y ∙ dl.org h x

        dst2 : (h : ℕ) → ¬ Slots slot p q h → ¬ Slots slot q r h → σ2.dst h ≡ σ0.dst h
        dst2 h x y = dr.dst h y ∙ dl.dst h x

        own_gap : (h : ℕ) → Slots slot p (suc r) h → ¬ Gaps gp i j h
        own_gap h y g = gap_slot h g y

        out_left : ¬ Slots slot p q P
        out_left y = rdy.top_out (in_left P y)

        out_right : ¬ Slots slot q r P
        out_right y = rdy.top_out (in_right P y)

        no0_left : ¬ Slots slot p q (3 * slot r)
        no0_left y = left_own (3 * slot r) y 0 lt0 (is0 (slot r))

        no0_right : ¬ Slots slot q r (3 * slot r)
        no0_right y = right_own (3 * slot r) y 0 lt0 (is0 (slot r))

        dead0 : Dead σ2 (3 * slot r)
        dead0 = live2 (3 * slot r) not02 not01 (own_gap (3 * slot r) own0) no0_left no0_right ∙ rdy.slot_dead (3 * slot r) own0

        dead_top : Dead σ2 P
        dead_top = live2 P (top_own 2 lt2) (top_own 1 lt1) (λ g. gap_top P g refl) out_left out_right ∙ rdy.top_dead

        -- and the node is joined
        module _ (σ3 : Net) (join : Joined σ2 σ3 (3 * slot r) P) where
          node_inv : Inv W σ3
          node_inv =
              joined_inv W σ2 σ3 (3 * slot r) P dead0 dead_top (rdy.slot_low (3 * slot r) own0) rdy.top_low
              (org2 (3 * slot r) no0_left no0_right ∙ cut.corners.org0 ∙ sym (dst2 P out_left out_right ∙ cut.dst P top_own ∙ rdy.top_dst))
              (dst2 (3 * slot r) no0_left no0_right ∙ cut.corners.dst0 ∙ sym (org2 P out_left out_right ∙ cut.org P top_own ∙ rdy.top_org))
              join dr.inv

          not_top : (h : ℕ) → Slots slot p (suc r) h → ¬ (h ≡ P)
          not_top h y e = rdy.top_out (subst (Slots slot p (suc r)) e y)

          by0 : (h : ℕ) → ((d : ℕ) → d < 3 → ¬ (h ≡ 3 * slot r + d)) → ¬ (h ≡ 3 * slot r)
          by0 h f e = f 0 lt0 (e ∙ is0 (slot r))

          gap_dead : (h : ℕ) → Gaps gp i j h → Dead σ3 h
          gap_dead h g = join.live h (by0 h (gap_own h g)) (gap_top h g) ∙ go (dec_lt g.at k)
            where
              go : Dec (g.at < k) → Dead σ2 h
              go (yes l) =
                  let a : Gaps gp i k h = record { at = g.at; low = g.low; high = l; is = g.is } in
                  dr.live h (gap_own h g 1 lt1) (gap_gap h a) (λ y. gap_slot h g (in_right h y)) ∙ dl.gap_dead h a
              go (no n) = dr.gap_dead h (record { at = g.at; low = omega arith; high = g.high; is = g.is })

          own_live : (h d : ℕ) → d < 3 → h ≡ 3 * slot r + d → Live σ3 h
          own_live h d l e = go (ℕ_discrete d 0) (ℕ_discrete d 1)
            where
              top : (d : ℕ) → d < 3 → ¬ (3 * slot r + d ≡ P)
              top d l = not_top (3 * slot r + d) (own d l)

              go : Dec (d ≡ 0) → Dec (d ≡ 1) → Live σ3 h
              go (yes z) w = ap σ3.live (omega arith) ∙ join.live_x
              go (no z) (yes w) = ap σ3.live (e ∙ ap (λ (x : ℕ). 3 * slot r + x) w) ∙ join.live (3 * slot r + 1) (λ x. omega arith) (top 1 lt1) ∙ dr.top_live
              go (no z) (no w) =
                  let t : d ≡ 2 = omega arith in
                  ap σ3.live (e ∙ ap (λ (x : ℕ). 3 * slot r + x) t) ∙ join.live (3 * slot r + 2) (λ x. omega arith) (top 2 lt2) ∙
                  dr.live (3 * slot r + 2) not21 (λ g. own_gap (3 * slot r + 2) (own 2 lt2) (gap_right (3 * slot r + 2) g)) (own_right 2 lt2) ∙ dl.top_live

          slot_live : (h : ℕ) → Slots slot p (suc r) h → Live σ3 h
          slot_live h y = go (dec_lt y.at q) (dec_lt y.at r)
            where
              go : Dec (y.at < q) → Dec (y.at < r) → Live σ3 h
              go (yes l) w =
                  let a : Slots slot p q h = record { at = y.at; k = y.k; low = y.low; high = l; three = y.three; is = y.is } in
                  join.live h (by0 h (left_own h a)) (not_top h y) ∙ dr.live h (left_own h a 1 lt1) (λ g. own_gap h y (gap_right h g)) (left_right h a) ∙ dl.slot_live h a
              go (no l) (yes w) =
                  let a : Slots slot q r h = record { at = y.at; k = y.k; low = omega arith; high = w; three = y.three; is = y.is } in
                  join.live h (by0 h (right_own h a)) (not_top h y) ∙ dr.slot_live h a
              go (no l) (no w) =
                  let e : y.at ≡ r = omega arith in
                  own_live h y.k y.three (y.is ∙ ap (λ (x : ℕ). 3 * slot x + y.k) e)

          tri : (y : ℕ) → p ≤ y → y < suc r → Tri Ccw σ3 (slot y)
          tri y l h = go (dec_lt y q) (dec_lt y r)
            where
              go : Dec (y < q) → Dec (y < r) → Tri Ccw σ3 (slot y)
              go (yes m) w =
                  tri_same Ccw σ1 σ3 (slot y)
                  (λ g d n e. join.org g ∙ dr.org g (left_right g (record { at = y; k = d; low = l; high = m; three = n; is = e })))
                  (λ g d n e. join.dst g ∙ dr.dst g (left_right g (record { at = y; k = d; low = l; high = m; three = n; is = e }))) (dl.tri y l m)
              go (no m) (yes w) = tri_same Ccw σ2 σ3 (slot y) (λ g d n e. join.org g) (λ g d n e. join.dst g) (dr.tri y (omega arith) w)
              go (no m) (no w) =
                  let e : r ≡ y = omega arith in
                  subst (λ (x : ℕ). Tri Ccw σ3 (slot x)) e
                  (tri_same Ccw σ0 σ3 (slot r)
                  (λ g d n e. join.org g ∙ org2 g (λ z. left_own g z d n e) (λ z. right_own g z d n e))
                  (λ g d n e. join.dst g ∙ dst2 g (λ z. left_own g z d n e) (λ z. right_own g z d n e))
                  (tri_of Ccw σ0 (slot r) (c i) (c j) (c k) turns cut.corners))

          pub node_done : Done W Ccw gp slot i j p (suc r) P σ σ3
          node_done = record {
            inv = node_inv;
            top_live = join.live_y;
            gap_dead = gap_dead;
            slot_live = slot_live;
            live = λ h n g y. join.live h (λ e. y (subst (Slots slot p (suc r)) (sym e) own0)) n
                ∙ live2 h (λ e. y (subst (Slots slot p (suc r)) (sym e) (own 2 lt2))) (λ e. y (subst (Slots slot p (suc r)) (sym e) (own 1 lt1))) g
                (λ z. y (in_left h z)) (λ z. y (in_right h z));
            org = λ h y. join.org h ∙ org2 h (λ z. y (in_left h z)) (λ z. y (in_right h z)) ∙ cut.org h (λ d l e. y (subst (Slots slot p (suc r)) (sym e) (own d l)));
            dst = λ h y. join.dst h ∙ dst2 h (λ z. y (in_left h z)) (λ z. y (in_right h z)) ∙ cut.dst h (λ d l e. y (subst (Slots slot p (suc r)) (sym e) (own d l)));
            tri = tri;
          }

  -- a filling that does not stick keeps the net
  pub fill_done : {i j p q P : ℕ} {σ σ' : Net} → Fill Ccw c gp slot i j p q P σ σ' → Ready W c gp slot i j p q P σ → Done W Ccw gp slot i j p q P σ σ'
  fill_done (gap {i = i} {p = p} {P = P} {σ = σ} {σ' = σ'} m) rdy = gap_done i p P σ σ' rdy m
  fill_done (node {i = i} {k = k} {j = j} {p = p} {q = q} {r = r} {P = P} {σ = σ} {σ0 = σ0} {σ1 = σ1} {σ2 = σ2} {σ3 = σ3} t w f g e) rdy =
      put_together (fill_slots Ccw c gp slot f) (fill_slots Ccw c gp slot g) (fill_part Ccw c gp slot f) (fill_part Ccw c gp slot g) (fill_done f) (fill_done g)
    where
      put_together : p ≤ q → q ≤ r → i < k → k < j → (Ready W c gp slot i k p q (3 * slot r + 2) σ0 →
          Done W Ccw gp slot i k p q (3 * slot r + 2) σ0 σ1) →
          (Ready W c gp slot k j q r (3 * slot r + 1) σ1 → Done W Ccw gp slot k j q r (3 * slot r + 1) σ1 σ2) → Done W Ccw gp slot i j p (suc r) P σ σ3
      put_together pq qr ik kj ihl ihr =
          let dl = ihl (ready_left i k j p q r P σ σ0 rdy t w pq qr ik kj) in
          let dr = ihr (ready_right i k j p q r P σ σ0 rdy t w pq qr ik kj σ1 dl) in
          node_done i k j p q r P σ σ0 rdy t w pq qr ik kj σ1 dl σ2 dr σ3 e
