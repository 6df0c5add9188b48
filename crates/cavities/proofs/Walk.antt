-- The walk along the corridor, with the chains of corners on its left and right: each triangle entered adds a corner to one of them and
-- parks the edge behind it. Assumes nothing.
use mathlib.Core.Bool.{true}
use mathlib.Core.Path.{◌≡◌, refl, sym, ap, ◌∙◌, subst}
use Prim.Native.Nat.{ℕ, zero, suc, ◌+◌, ◌*◌, ◌≤◌, ◌<◌}
use native.Mathlib.Decide.{ℕ_discrete, dec_lt}
use native.Mathlib.Omega.{arith}
use Rattle.cavities.specs.Changes.{But, Dropped, Parked}
use Rattle.cavities.specs.Corridors.{Three, In, Parts, Tiled, Core, Figure, Walk, start, left, right, Arrive, Which, is_left, is_right, Chains, Strip, Open}
use Rattle.cavities.specs.Fillings.{Slots, Gaps, Tri}
use Rattle.cavities.specs.Heirs.{Kept}
use Rattle.cavities.specs.Nets.{Net, Live, Mated, World}
use Rattle.cavities.proofs.Fill.{le_self, same_slot}
use Rattle.cavities.proofs.Net.{clash}
use Rattle.cavities.proofs.Steps.{not_same}
use Rattle.cavities.proofs.Strip.{parts, parts_swap, turn, turn_ef, enter, begin, finish}

module _ (F : Figure) (t : ℕ) where
  -- as many triangles as corners, with the one that is entered last
  pub walk_count : {n l r x : ℕ} {σ σ' : Net} → Walk F t n l r x σ σ' → suc n ≡ l + r
  walk_count (start a b c d e f g h i j k m) = refl
  walk_count (left {n = n} {l = l} {r = r} w a a' b c d e f g h) = let q = walk_count w in omega arith
  walk_count (right {n = n} {l = l} {r = r} w a a' b c d e f g h) = let q = walk_count w in omega arith

which_left : (F : Figure) (l r h : ℕ) → Which F l r h → Which F (suc l) r h
which_left F l r h (is_left z k e) = is_left z (omega arith) e
which_left F l r h (is_right z k e) = is_right z k e

which_right : (F : Figure) (l r h : ℕ) → Which F l r h → Which F l (suc r) h
which_right F l r h (is_left z k e) = is_left z k e
which_right F l r h (is_right z k e) = is_right z (omega arith) e

more : (P : ℕ → Type 0) (l : ℕ) → ((z : ℕ) → 0 < z → z ≤ l → P z) → P (suc l) → (z : ℕ) → 0 < z → z ≤ suc l → P z
more P l f e z p k = go (dec_lt z (suc l))
  where
    go : Dec (z < suc l) → P z
    go (yes d) = f z p (omega arith)
    go (no d) = let q : suc l ≡ z = omega arith in subst P q e

by_last : (n z : ℕ) (P : ℕ → Type 0) → ((z : ℕ) → z < n → P z) → P n → z < suc n → P z
by_last n z P f e l = go (dec_lt z n)
  where
    go : Dec (z < n) → P z
    go (yes k) = f z k
    go (no k) = let q : n ≡ z = omega arith in subst P q e

-- a gap more on the left, or on the right
module _ (F : Figure) (n l r : ℕ) (σ σ' : Net) (ch : Chains F n l r σ) (fresh : ¬ Gaps F.vt 0 (suc n) (F.vt (suc n)))
    (org : (h : ℕ) → Gaps F.vt 0 (suc n) h → σ'.org h ≡ σ.org h) (dst : (h : ℕ) → Gaps F.vt 0 (suc n) h → σ'.dst h ≡ σ.dst h) where
  wider : (h : ℕ) → Gaps F.vt 0 (suc n) h → Gaps F.vt 0 (suc (suc n)) h
  wider h g = record { at = g.at; low = g.low; high = let k = g.high in omega arith; is = g.is }

  newest : Gaps F.vt 0 (suc (suc n)) (F.vt (suc n))
  newest = record { at = suc n; low = omega arith; high = le_self; is = refl }

  more_left : F.gl l ≡ F.vt (suc n) → σ'.org (F.vt (suc n)) ≡ F.cl (suc l) → σ'.dst (F.vt (suc n)) ≡ F.cl l → Chains F (suc n) (suc l) r σ'
  more_left e o d = record {
    l_in = λ z. by_last l z (λ (w : ℕ). Gaps F.vt 0 (suc (suc n)) (F.gl w)) (λ w k. wider (F.gl w) (ch.l_in w k)) (subst (Gaps F.vt 0 (suc (suc n))) (sym e) newest);
    l_org = λ z. by_last l z (λ (w : ℕ). σ'.org (F.gl w) ≡ F.cl (suc w)) (λ w k. org (F.gl w) (ch.l_in w k) ∙ ch.l_org w k) (ap σ'.org e ∙ o);
    l_dst = λ z. by_last l z (λ (w : ℕ). σ'.dst (F.gl w) ≡ F.cl w) (λ w k. dst (F.gl w) (ch.l_in w k) ∙ ch.l_dst w k) (ap σ'.dst e ∙ d);
    l_apart = λ z w i j q. apart z w i j q (dec_lt z l) (dec_lt w l);
    r_in = λ z k. wider (F.gr z) (ch.r_in z k);
    r_org = λ z k. org (F.gr z) (ch.r_in z k) ∙ ch.r_org z k;
    r_dst = λ z k. dst (F.gr z) (ch.r_in z k) ∙ ch.r_dst z k;
    r_apart = ch.r_apart;
    lr = λ z w i j. by_last l z (λ (u : ℕ). ¬ (F.gl u ≡ F.gr w)) (λ u k. ch.lr u w k j) (λ q. fresh (subst (Gaps F.vt 0 (suc n)) (sym q ∙ e) (ch.r_in w j))) i;
    onto = λ x. by_last (suc n) x (λ (z : ℕ). Which F (suc l) r (F.vt z)) (λ z k. which_left F l r (F.vt z) (ch.onto z k)) (is_left l le_self e);
  }
    where
      apart : (z w : ℕ) → z < suc l → w < suc l → F.gl z ≡ F.gl w → Dec (z < l) → Dec (w < l) → z ≡ w
      apart z w i j q (yes a) (yes b) = ch.l_apart z w a b q
      apart z w i j q (yes a) (no b) = let u : w ≡ l = omega arith in absurd (fresh (subst (Gaps F.vt 0 (suc n)) (q ∙ ap F.gl u ∙ e) (ch.l_in z a)))
      apart z w i j q (no a) (yes b) = let u : z ≡ l = omega arith in absurd (fresh (subst (Gaps F.vt 0 (suc n)) (sym q ∙ ap F.gl u ∙ e) (ch.l_in w b)))
      apart z w i j q (no a) (no b) = omega arith

  more_right : F.gr r ≡ F.vt (suc n) → σ'.org (F.vt (suc n)) ≡ F.cr r → σ'.dst (F.vt (suc n)) ≡ F.cr (suc r) → Chains F (suc n) l (suc r) σ'
  more_right e o d = record {
    r_in = λ z. by_last r z (λ (w : ℕ). Gaps F.vt 0 (suc (suc n)) (F.gr w)) (λ w k. wider (F.gr w) (ch.r_in w k)) (subst (Gaps F.vt 0 (suc (suc n))) (sym e) newest);
    r_org = λ z. by_last r z (λ (w : ℕ). σ'.org (F.gr w) ≡ F.cr w) (λ w k. org (F.gr w) (ch.r_in w k) ∙ ch.r_org w k) (ap σ'.org e ∙ o);
    r_dst = λ z. by_last r z (λ (w : ℕ). σ'.dst (F.gr w) ≡ F.cr (suc w)) (λ w k. dst (F.gr w) (ch.r_in w k) ∙ ch.r_dst w k) (ap σ'.dst e ∙ d);
    r_apart = λ z w i j q. apart z w i j q (dec_lt z r) (dec_lt w r);
    l_in = λ z k. wider (F.gl z) (ch.l_in z k);
    l_org = λ z k. org (F.gl z) (ch.l_in z k) ∙ ch.l_org z k;
    l_dst = λ z k. dst (F.gl z) (ch.l_in z k) ∙ ch.l_dst z k;
    l_apart = ch.l_apart;
    lr = λ z w i. by_last r w (λ (u : ℕ). ¬ (F.gl z ≡ F.gr u)) (λ u k. ch.lr z u i k) (λ q. fresh (subst (Gaps F.vt 0 (suc n)) (q ∙ e) (ch.l_in z i)));
    onto = λ x. by_last (suc n) x (λ (z : ℕ). Which F l (suc r) (F.vt z)) (λ z k. which_right F l r (F.vt z) (ch.onto z k)) (is_right r le_self e);
  }
    where
      apart : (z w : ℕ) → z < suc r → w < suc r → F.gr z ≡ F.gr w → Dec (z < r) → Dec (w < r) → z ≡ w
      apart z w i j q (yes a) (yes b) = ch.r_apart z w a b q
      apart z w i j q (yes a) (no b) = let u : w ≡ r = omega arith in absurd (fresh (subst (Gaps F.vt 0 (suc n)) (q ∙ ap F.gr u ∙ e) (ch.r_in z a)))
      apart z w i j q (no a) (yes b) = let u : z ≡ r = omega arith in absurd (fresh (subst (Gaps F.vt 0 (suc n)) (sym q ∙ ap F.gr u ∙ e) (ch.r_in w b)))
      apart z w i j q (no a) (no b) = omega arith

-- ---- the triangle that is entered next

module _ (W : World) (Ccw : ℕ → ℕ → ℕ → Type 0) (F : Figure) (t cap : ℕ) (σ : Net) (til : Tiled W Ccw F.vt t cap σ) where
  pub vt_fresh : (n : ℕ) → suc n < cap → ¬ Gaps F.vt 0 (suc n) (F.vt (suc n))
  vt_fresh n fits g = let q = til.apart (suc n) g.at fits (let k = fits in let m = g.high in omega arith) g.is in let m = g.high in omega arith

  module _ (n l r x f g : ℕ) (σ1 : Net) (st : Strip W F t n l r x σ σ1) (fits : suc n < cap) (has : σ1.has x ≡ true) (plain : σ1.mark x ≡ 0)
      (three : Three (F.slot n) (σ1.mate x) f g) (small : F.slot n < t) where
    pub pair : Mated σ1 x (σ1.mate x)
    pair = (st.core.inv.good x st.core.exit_live).mated has

    pub in_live : (h : ℕ) → In (F.slot n) h → Live σ h
    in_live h i = til.live h (subst (λ (k : ℕ). k < 3 * t) (sym i.is) (small' (F.slot n) i.k small i.three))
      where
        small' : (s k : ℕ) → s < t → k < 3 → 3 * s + k < 3 * t
        small' s k l h = omega arith

    pub in_gap : (h : ℕ) → In (F.slot n) h → ¬ Gaps F.vt 0 (suc n) h
    in_gap h i d = clash (in_live h i) (ap σ.live d.is ∙ til.dead d.at (let k = fits in let m = d.high in omega arith))

    pub prt : Parts (F.slot n) (σ1.mate x) f g
    prt = parts three

    pub org1 : (h : ℕ) → In (F.slot n) h → σ1.org h ≡ σ.org h
    org1 h i = st.core.org h (in_gap h i)

    pub dst1 : (h : ℕ) → In (F.slot n) h → σ1.dst h ≡ σ.dst h
    dst1 h i = st.core.dst h (in_gap h i)

    pub f_org : σ1.org f ≡ F.cr r
    f_org = org1 f prt.in_f ∙ sym (turn_ef Ccw σ three (til.tri (F.slot n) small)) ∙ sym (dst1 (σ1.mate x) prt.in_e) ∙ pair.dst ∙ st.exit.org

    pub f_dst : σ1.dst f ≡ σ1.org g
    f_dst = dst1 f prt.in_f ∙ turn_ef Ccw σ (turn three) (til.tri (F.slot n) small) ∙ sym (org1 g prt.in_g)

    pub g_dst : σ1.dst g ≡ F.cl l
    g_dst = dst1 g prt.in_g ∙ turn_ef Ccw σ (turn (turn three)) (til.tri (F.slot n) small) ∙ sym (org1 (σ1.mate x) prt.in_e) ∙ pair.org ∙ st.exit.dst

    pub open' : ¬ (σ1.org x ≡ σ1.dst x)
    open' q = F.apart (F.cl l) (st.exit.is_left l st.exit.some_left le_self) (subst F.Right (sym st.exit.org ∙ q ∙ st.exit.dst) (st.exit.is_right r st.exit.some_right le_self))

    pub not_vt : (h : ℕ) → In (F.slot n) h → (y : ℕ) → y < cap → ¬ (h ≡ F.vt y)
    not_vt h i y k = not_same σ h (F.vt y) (in_live h i) (til.dead y k)

    -- f starts where x does, and the last gap on the left where its partner does
    new_slot : ¬ Slots F.slot 0 n (σ1.mate x)
    new_slot s = clash pair.live (st.core.slot_dead (σ1.mate x) s (λ q. open' (sym pair.dst ∙ ap σ1.dst q)))

    pub in_new : (h : ℕ) → In (F.slot n) h → ¬ Slots F.slot 0 n h
    in_new h i s =
        let q = same_slot (F.slot s.at) (F.slot n) s.k i.k s.three i.three (sym s.is ∙ i.is) in
        new_slot (record { at = s.at; k = prt.in_e.k; low = s.low; high = s.high; three = prt.in_e.three; is = prt.in_e.is ∙ ap (λ (u : ℕ). 3 * u + prt.in_e.k) (sym q) })

    pub keep_x : Kept σ1 (But x (σ1.mate x)) (σ1.org x)
    keep_x = record {
      at = f;
      live = st.core.live f (in_new f prt.in_f) (in_gap f prt.in_f) ∙ in_live f prt.in_f;
      keep = ((λ q. in_new f prt.in_f (subst (Slots F.slot 0 n) (sym q) st.core.exit_in)), (λ q. prt.ef (sym q)));
      org = f_org ∙ sym st.exit.org;
    }

    pub exit_was : Live σ x
    exit_was =
        let s = st.core.exit_in in
        til.live x (subst (λ (k : ℕ). k < 3 * t) (sym s.is) (low (F.slot s.at) s.k (st.core.slot_real s.at s.high) s.three))
      where
        low : (s k : ℕ) → s < t → k < 3 → 3 * s + k < 3 * t
        low s k i j = omega arith

    pub keep_y : Kept σ1 (But x (σ1.mate x)) (σ1.org (σ1.mate x))
    keep_y = go l refl
      where
        go : (k : ℕ) → l ≡ k → Kept σ1 (But x (σ1.mate x)) (σ1.org (σ1.mate x))
        go zero e = let p = st.exit.some_left in absurd (none l p e)
          where
            none : (l : ℕ) → 0 < l → l ≡ 0 → ⊥
            none l p e = omega arith
        go (suc k) e = record {
          at = F.gl k;
          live = st.core.gap_live (F.gl k) gap;
          keep = ((λ q. dead exit_was q), (λ q. dead (in_live (σ1.mate x) prt.in_e) q));
          org = st.chains.l_org k below ∙ ap F.cl (sym e) ∙ sym (pair.org ∙ st.exit.dst);
        }
          where
            below : k < l
            below = omega arith

            gap : Gaps F.vt 0 (suc n) (F.gl k)
            gap = st.chains.l_in k below

            dead : {h : ℕ} → Live σ h → ¬ (F.gl k ≡ h)
            dead {h} a q = clash a (ap σ.live (sym q ∙ gap.is) ∙ til.dead gap.at (let u = fits in let v = gap.high in omega arith))

    module _ (σ2 σ3 : Net) (drop : Dropped σ1 σ2 x (σ1.mate x)) where
      gap_org : (o : ℕ) → Parked σ2 σ3 o (F.vt (suc n)) → (h : ℕ) → Gaps F.vt 0 (suc n) h → σ3.org h ≡ σ1.org h
      gap_org o park h d = park.org h (λ q. vt_fresh n fits (subst (Gaps F.vt 0 (suc n)) q d)) ∙ (drop.same h).org

      gap_dst : (o : ℕ) → Parked σ2 σ3 o (F.vt (suc n)) → (h : ℕ) → Gaps F.vt 0 (suc n) h → σ3.dst h ≡ σ1.dst h
      gap_dst o park h d = park.dst h (λ q. vt_fresh n fits (subst (Gaps F.vt 0 (suc n)) q d)) ∙ (drop.same h).dst

      -- the edge on the left is parked
      park_g_lem : Parked σ2 σ3 g (F.vt (suc n)) → Core W F.slot F.vt t (suc n) f σ σ3
      park_g_lem park = enter W Ccw F.slot F.vt t cap n x σ σ1 σ2 σ3 til st.core fits has plain g f (parts_swap prt) small open' keep_x keep_y drop park

      go_left : Parked σ2 σ3 g (F.vt (suc n)) → σ1.org g ≡ F.cl (suc l) → F.gl l ≡ F.vt (suc n) → Chains F (suc n) (suc l) r σ3
      go_left park o e =
          more_left F n l r σ1 σ3 st.chains (vt_fresh n fits) (gap_org g park) (gap_dst g park) e
          (park.org_v ∙ (drop.same g).org ∙ o) (park.dst_v ∙ (drop.same g).dst ∙ g_dst)

      pub walk_left : Parked σ2 σ3 g (F.vt (suc n)) → σ1.org g ≡ F.cl (suc l) → F.Left (F.cl (suc l)) → F.gl l ≡ F.vt (suc n) → Strip W F t (suc n) (suc l) r f σ σ3
      walk_left park o s e = record {
        core = park_g_lem park;
        chains = go_left park o e;
        exit = record {
          org = park.org f (not_vt f prt.in_f (suc n) fits) ∙ (drop.same f).org ∙ f_org;
          dst = park.dst f (not_vt f prt.in_f (suc n) fits) ∙ (drop.same f).dst ∙ f_dst ∙ o;
          is_left = more (λ (z : ℕ). F.Left (F.cl z)) l st.exit.is_left s;
          is_right = st.exit.is_right;
          some_left = omega arith;
          some_right = st.exit.some_right;
        };
      }

      pub walk_right : Parked σ2 σ3 f (F.vt (suc n)) → σ1.org g ≡ F.cr (suc r) → F.Right (F.cr (suc r)) → F.gr r ≡ F.vt (suc n) → Strip W F t (suc n) l (suc r) g σ σ3
      walk_right park o s e = record {
        core = enter W Ccw F.slot F.vt t cap n x σ σ1 σ2 σ3 til st.core fits has plain f g prt small open' keep_x keep_y drop park;
        chains =
            more_right F n l r σ1 σ3 st.chains (vt_fresh n fits) (gap_org f park) (gap_dst f park) e
            (park.org_v ∙ (drop.same f).org ∙ f_org) (park.dst_v ∙ (drop.same f).dst ∙ f_dst ∙ o);
        exit = record {
          org = park.org g (not_vt g prt.in_g (suc n) fits) ∙ (drop.same g).org ∙ o;
          dst = park.dst g (not_vt g prt.in_g (suc n) fits) ∙ (drop.same g).dst ∙ g_dst;
          is_left = st.exit.is_left;
          is_right = more (λ (z : ℕ). F.Right (F.cr z)) r st.exit.is_right s;
          some_left = st.exit.some_left;
          some_right = omega arith;
        };
      }

  pub arrive : (n l r x f g : ℕ) (σ1 σ2 σ3 σ4 : Net) → Strip W F t n l r x σ σ1 → suc (suc n) < cap → Arrive F t n l r x f g σ1 σ2 σ3 σ4 → Open W F t n l r σ σ4
  arrive n l r x f g σ1 σ2 σ3 σ4 st fits a = record {
    core = finish W Ccw F.slot F.vt t cap (suc n) f σ σ3 σ4 til (park_g_lem n l r x f g σ1 st less a.has a.plain a.three a.small σ2 σ3 a.drop a.park) fits a.park';
    chains =
        more_right F (suc n) (suc l) r σ3 σ4
        (go_left n l r x f g σ1 st less a.has a.plain a.three a.small σ2 σ3 a.drop a.park a.b_left a.at_left) (vt_fresh (suc n) fits)
        (λ h d. a.park'.org h (λ q. vt_fresh (suc n) fits (subst (Gaps F.vt 0 (suc (suc n))) q d)))
        (λ h d. a.park'.dst h (λ q. vt_fresh (suc n) fits (subst (Gaps F.vt 0 (suc (suc n))) q d))) a.at_right
        (a.park'.org_v ∙ a.park.org f f_vt ∙ (a.drop.same f).org ∙ f_org n l r x f g σ1 st less a.has a.plain a.three a.small)
        (a.park'.dst_v ∙ a.park.dst f f_vt ∙ (a.drop.same f).dst ∙ f_dst n l r x f g σ1 st less a.has a.plain a.three a.small ∙ a.b_right);
  }
    where
      less : suc n < cap
      less = omega arith

      f_vt : ¬ (f ≡ F.vt (suc n))
      f_vt = not_vt n l r x f g σ1 st less a.has a.plain a.three a.small f (parts a.three).in_f (suc n) less

  first : (f x g : ℕ) (σ1 σ2 : Net) → 1 < cap → Three (F.slot 0) f x g → F.slot 0 < t → σ.org f ≡ F.cl 0 → σ.org f ≡ F.cr 0 →
      σ.org x ≡ F.cr 1 → σ.org g ≡ F.cl 1 → F.Left (F.cl 1) → F.Right (F.cr 1) → F.gl 0 ≡ F.vt 0 → F.gr 0 ≡ F.vt 1 →
      Parked σ σ1 g (F.vt 0) → Parked σ1 σ2 f (F.vt 1) → Strip W F t 1 1 1 x σ σ2
  first f x g σ1 σ2 fits three small a a' u v lv ru el er park park' = record {
    core = begin W Ccw F.slot F.vt t cap x g f σ σ1 σ2 til fits (parts (turn three)) small park park';
    chains = record {
      l_in = λ z k. only z k (λ (w : ℕ). Gaps F.vt 0 2 (F.gl w)) (record { at = 0; low = omega arith; high = omega arith; is = el });
      l_org = λ z k. only z k (λ (w : ℕ). σ2.org (F.gl w) ≡ F.cl (suc w)) (ap σ2.org el ∙ park'.org (F.vt 0) v01 ∙ park.org_v ∙ v);
      l_dst = λ z k. only z k (λ (w : ℕ). σ2.dst (F.gl w) ≡ F.cl w) (ap σ2.dst el ∙ park'.dst (F.vt 0) v01 ∙ park.dst_v ∙ turn_ef Ccw σ (turn (turn three)) tr ∙ a);
      l_apart = λ z w i j q. omega arith;
      r_in = λ z k. only z k (λ (w : ℕ). Gaps F.vt 0 2 (F.gr w)) (record { at = 1; low = omega arith; high = omega arith; is = er });
      r_org = λ z k. only z k (λ (w : ℕ). σ2.org (F.gr w) ≡ F.cr w) (ap σ2.org er ∙ park'.org_v ∙ park.org f f_vt ∙ a');
      r_dst = λ z k. only z k (λ (w : ℕ). σ2.dst (F.gr w) ≡ F.cr (suc w)) (ap σ2.dst er ∙ park'.dst_v ∙ park.dst f f_vt ∙ turn_ef Ccw σ three tr ∙ u);
      r_apart = λ z w i j q. omega arith;
      lr = λ z w i j q. let d : z ≡ 0 = omega arith in let e : w ≡ 0 = omega arith in v01 (sym el ∙ ap F.gl (sym d) ∙ q ∙ ap F.gr e ∙ er);
      onto = λ z. by_last 1 z (λ (w : ℕ). Which F 1 1 (F.vt w)) (λ w k. only w k (λ (y : ℕ). Which F 1 1 (F.vt y)) (is_left 0 (omega arith) el)) (is_right 0 (omega arith) er);
    };
    exit = record {
      org = park'.org x (x_vt 1 fits) ∙ park.org x (x_vt 0 zero_fits) ∙ u;
      dst = park'.dst x (x_vt 1 fits) ∙ park.dst x (x_vt 0 zero_fits) ∙ turn_ef Ccw σ (turn three) tr ∙ v;
      is_left = more (λ (z : ℕ). F.Left (F.cl z)) 0 (λ z p k. none_pos z p k) lv;
      is_right = more (λ (z : ℕ). F.Right (F.cr z)) 0 (λ z p k. none_pos z p k) ru;
      some_left = omega arith;
      some_right = omega arith;
    };
  }
    where
      none_pos : {X : Type 0} (z : ℕ) → 0 < z → z ≤ 0 → X
      none_pos z p k = absurd (no_way z p k)
        where
          no_way : (z : ℕ) → 0 < z → z ≤ 0 → ⊥
          no_way z p k = omega arith

      only : (z : ℕ) → z < 1 → (P : ℕ → Type 0) → P 0 → P z
      only z k P p = let q : 0 ≡ z = omega arith in subst P q p

      zero_fits : 0 < cap
      zero_fits = omega arith

      tr : Tri Ccw σ (F.slot 0)
      tr = til.tri (F.slot 0) small

      v01 : ¬ (F.vt 0 ≡ F.vt 1)
      v01 q = let e = til.apart 0 1 zero_fits fits q in omega arith

      real : (h : ℕ) → In (F.slot 0) h → Live σ h
      real h i = til.live h (subst (λ (k : ℕ). k < 3 * t) (sym i.is) (small' (F.slot 0) i.k small i.three))
        where
          small' : (s k : ℕ) → s < t → k < 3 → 3 * s + k < 3 * t
          small' s k l h = omega arith

      f_vt : ¬ (f ≡ F.vt 0)
      f_vt = not_same σ f (F.vt 0) (real f (parts three).in_e) (til.dead 0 zero_fits)

      x_vt : (y : ℕ) → y < cap → ¬ (x ≡ F.vt y)
      x_vt y k = not_same σ x (F.vt y) (real x (parts three).in_f) (til.dead y k)

pub walk_strip : (W : World) (Ccw : ℕ → ℕ → ℕ → Type 0) (F : Figure) (t cap : ℕ) {n l r x : ℕ} {σ σ' : Net} → Tiled W Ccw F.vt t cap σ → n < cap → Walk F t n l r x σ σ' → Strip W F t n l r x σ σ'
walk_strip W Ccw F t cap til fits (start {f = f} {x = x} {g = g} {σ = σ} {σ1 = σ1} {σ2 = σ2} a b c d e i j k m o p q) = first W Ccw F t cap σ til f x g σ1 σ2 fits a b c d e i j k m o p q
walk_strip W Ccw F t cap til fits (left {n = n} {l = l} {r = r} {x = x} {f = f} {g = g} {σ = σ} {σ1 = σ1} {σ2 = σ2} {σ3 = σ3} w has plain three small o s e drop park) =
    walk_left W Ccw F t cap σ til n l r x f g σ1 (walk_strip W Ccw F t cap til (omega arith) w) fits has plain three small σ2 σ3 drop park o s e
walk_strip W Ccw F t cap til fits (right {n = n} {l = l} {r = r} {x = x} {f = f} {g = g} {σ = σ} {σ1 = σ1} {σ2 = σ2} {σ3 = σ3} w has plain three small o s e drop park) =
    walk_right W Ccw F t cap σ til n l r x f g σ1 (walk_strip W Ccw F t cap til (omega arith) w) fits has plain three small σ2 σ3 drop park o s e

-- no triangle is entered twice: the exit's partner is a half-edge of a triangle that was not crossed
module _ (W : World) (Ccw : ℕ → ℕ → ℕ → Type 0) (F : Figure) (t n l r x : ℕ) (σ σ1 : Net) (low : (h : ℕ) → Live σ h → h < 3 * t)
    (a-left : ¬ F.Left (F.cr 0)) (a-right : ¬ F.Right (F.cl 0)) (st : Strip W F t n l r x σ σ1) (has : σ1.has x ≡ true) where
  x_pair : Mated σ1 x (σ1.mate x)
  x_pair = (st.core.inv.good x st.core.exit_live).mated has

  at_left : F.Left (F.cl l)
  at_left = st.exit.is_left l st.exit.some_left le_self

  at_right : F.Right (F.cr r)
  at_right = st.exit.is_right r st.exit.some_right le_self

  no_left : (z : ℕ) → z < l → ¬ (F.gl z ≡ σ1.mate x)
  no_left z k q = go (ℕ_discrete z 0)
    where
      e : F.cl z ≡ F.cr r
      e = sym (st.chains.l_dst z k) ∙ ap σ1.dst q ∙ x_pair.dst ∙ st.exit.org

      go : Dec (z ≡ 0) → ⊥
      go (yes d) = a-right (subst F.Right (sym e ∙ ap F.cl d) at_right)
      go (no d) = F.apart (F.cr r) (subst F.Left e (st.exit.is_left z (omega arith) (omega arith))) at_right

  no_right : (z : ℕ) → z < r → ¬ (F.gr z ≡ σ1.mate x)
  no_right z k q = go (ℕ_discrete z 0)
    where
      e : F.cr z ≡ F.cl l
      e = sym (st.chains.r_org z k) ∙ ap σ1.org q ∙ x_pair.org ∙ st.exit.dst

      go : Dec (z ≡ 0) → ⊥
      go (yes d) = a-left (subst F.Left (sym e ∙ ap F.cr d) at_left)
      go (no d) = F.apart (F.cl l) at_left (subst F.Right e (st.exit.is_right z (omega arith) (omega arith)))

  pub enters_new : ¬ Slots F.slot 0 n (σ1.mate x)
  enters_new s = clash x_pair.live (st.core.slot_dead (σ1.mate x) s
      (λ q. F.apart (F.cl l) at_left (subst F.Right (sym st.exit.org ∙ ap σ1.org (sym q) ∙ x_pair.org ∙ st.exit.dst) at_right)))

  pub enters_real : σ1.mate x < 3 * t
  enters_real = low (σ1.mate x) (sym (st.core.live (σ1.mate x) enters_new no_gap) ∙ x_pair.live)
    where
      no_gap : ¬ Gaps F.vt 0 (suc n) (σ1.mate x)
      no_gap g = go (st.chains.onto g.at g.high)
        where
          go : Which F l r (F.vt g.at) → ⊥
          go (is_left z k e) = no_left z k (e ∙ sym g.is)
          go (is_right z k e) = no_right z k (e ∙ sym g.is)
