-- Every plan of a filling can be carried out: a tree whose apexes lie strictly left of their bases. So the relation Fill is not empty,
-- and a filling sticks only where an apex does not lie so. Assumes nothing.
use mathlib.Core.Bool.{true}
use mathlib.Core.Path.{◌≡◌, refl, sym, ap, ◌∙◌}
use Prim.Native.Nat.{ℕ, suc, ◌+◌, ◌*◌, ◌≤◌, ◌<◌}
use native.Mathlib.Decide.{ℕ_discrete}
use native.Mathlib.Omega.{arith}
use Rattle.cavities.specs.Changes.{Parked, Moved, Dropped}
use Rattle.cavities.specs.Closings.{Opened}
use Rattle.cavities.specs.Fillings.{Cut, Fill, gap, node, Ready, Done}
use Rattle.cavities.specs.Leaves.{put, park_net, join_net, drop_net, put3, cut_net}
use Rattle.cavities.specs.Nets.{Net, Live, Dead, World}
use Rattle.cavities.specs.Plans.{Plan, leaf, fork, Proper, Closes}
use Rattle.cavities.proofs.Close.{left_ready, right_ready, root_org, root_dst, org2, dst2, not_root, inv3, live3}
use Rattle.cavities.proofs.Fill.{fill_done, fill_top, ready_left, ready_right, top_own, le_self, is0, lt0, lt1, lt2}
use Rattle.cavities.proofs.Leaves.{put_same, put_other, parks, joins, drops}
use Rattle.cavities.proofs.Steps.{not_same}

-- ---- the corners of a slot

module _ (f : ℕ → ℕ) (s a b c : ℕ) where
  put3_0 : put3 f s a b c (3 * s) ≡ a
  unfolding put3
  put3_0 = put_other (put (put f (3 * s) a) (3 * s + 1) b) (3 * s + 2) c (3 * s) (λ e. omega arith) ∙ put_other (put f (3 * s) a) (3 * s + 1) b (3 * s) (λ e. omega arith) ∙ put_same f (3 * s) a

  put3_1 : put3 f s a b c (3 * s + 1) ≡ b
  unfolding put3
  put3_1 = put_other (put (put f (3 * s) a) (3 * s + 1) b) (3 * s + 2) c (3 * s + 1) (λ e. omega arith) ∙ put_same (put f (3 * s) a) (3 * s + 1) b

  put3_2 : put3 f s a b c (3 * s + 2) ≡ c
  unfolding put3
  put3_2 = put_same (put (put f (3 * s) a) (3 * s + 1) b) (3 * s + 2) c

  put3_out : (h : ℕ) → ((k : ℕ) → k < 3 → ¬ (h ≡ 3 * s + k)) → put3 f s a b c h ≡ f h
  unfolding put3
  put3_out h n =
      put_other (put (put f (3 * s) a) (3 * s + 1) b) (3 * s + 2) c h (n 2 lt2) ∙ put_other (put f (3 * s) a) (3 * s + 1) b h (n 1 lt1) ∙
      put_other f (3 * s) a h (λ e. n 0 lt0 (e ∙ is0 s))

pub cuts : (σ : Net) (s a b c : ℕ) → ((k : ℕ) → k < 3 → Dead σ (3 * s + k)) → Cut σ (cut_net σ s a b c) s a b c
unfolding cut_net
cuts σ s a b c dead = record {
  wrote = record {
    live = λ h. refl;
    same = λ h l. record { org = put3_out σ.org s a b c h (out h l); dst = put3_out σ.dst s b c a h (out h l); mark = refl; has = refl; mate = refl; side = refl };
  };
  corners = record {
    org0 = put3_0 σ.org s a b c;
    dst0 = put3_0 σ.dst s b c a;
    org1 = put3_1 σ.org s a b c;
    dst1 = put3_1 σ.dst s b c a;
    org2 = put3_2 σ.org s a b c;
    dst2 = put3_2 σ.dst s b c a;
  };
  org = put3_out σ.org s a b c;
  dst = put3_out σ.dst s b c a;
}
  where
    out : (h : ℕ) → Live σ h → (k : ℕ) → k < 3 → ¬ (h ≡ 3 * s + k)
    out h l k d = not_same σ h (3 * s + k) l (dead k d)

-- parked at a number whose ends are right is moved
pub moves : (σ σ' : Net) (o v : ℕ) → σ.org v ≡ σ.org o → σ.dst v ≡ σ.dst o → Parked σ σ' o v → Moved σ σ' o v
moves σ σ' o v eo ed p = record {
  dead_o = p.dead_o;
  live_v = p.live_v;
  live = p.live;
  org = λ h. org h (ℕ_discrete h v);
  dst = λ h. dst h (ℕ_discrete h v);
  mark_v = p.mark_v;
  mark = p.mark;
  side_v = p.side_v;
  side = p.side;
  has_v = p.has_v;
  has = p.has;
  mate_v = p.mate_v;
  mate = p.mate;
}
  where
    org : (h : ℕ) → Dec (h ≡ v) → σ'.org h ≡ σ.org h
    org h (yes e) = ap σ'.org e ∙ p.org_v ∙ sym eo ∙ ap σ.org (sym e)
    org h (no n) = p.org h n

    dst : (h : ℕ) → Dec (h ≡ v) → σ'.dst h ≡ σ.dst h
    dst h (yes e) = ap σ'.dst e ∙ p.dst_v ∙ sym ed ∙ ap σ.dst (sym e)
    dst h (no n) = p.dst h n

-- ---- plans

module _ (W : World) (Ccw : ℕ → ℕ → ℕ → Type 0) (c gp slot : ℕ → ℕ) where
  plan_slots : {i j p q : ℕ} → Plan Ccw c i j p q → p ≤ q
  plan_slots leaf = le_self
  plan_slots (fork {p = p} {q = q} {r = r} t f g) = let x = plan_slots f in let y = plan_slots g in omega arith

  plan_part : {i j p q : ℕ} → Plan Ccw c i j p q → i < j
  plan_part leaf = le_self
  plan_part (fork {i = i} {k = k} {j = j} t f g) = let x = plan_part f in let y = plan_part g in omega arith

  plan_count : {i j p q : ℕ} → Plan Ccw c i j p q → q + suc i ≡ p + j
  plan_count leaf = refl
  plan_count (fork {i = i} {k = k} {j = j} {p = p} {q = q} {r = r} t f g) = let x = plan_count f in let y = plan_count g in omega arith

  -- both sides together want a slot for each corner between a and b
  pub slots_fit : (l r q m : ℕ) → Plan Ccw c 0 (suc l) 0 q → Plan Ccw c (suc l) (suc l + suc r) q m → m ≡ l + r
  slots_fit l r q m f g = let x = plan_count f in let y = plan_count g in omega arith

  abbrev Runs : ℕ → ℕ → ℕ → ℕ → Type 0
  Runs i j p q = (P : ℕ) (σ : Net) → Proper c i j → Ready W c gp slot i j p q P σ → (σ' : Net) × Fill Ccw c gp slot i j p q P σ σ'

  run_gap : (i p : ℕ) → Runs i (suc i) p p
  run_gap i p P σ proper rdy = (
    park_net σ (gp i) P,
    gap (moves σ (park_net σ (gp i) P) (gp i) P (rdy.top_org ∙ sym o) (rdy.top_dst ∙ sym d)
        (parks W σ (gp i) P rdy.inv (rdy.gap_live (gp i) (record { at = i; low = le_self; high = le_self; is = refl })) rdy.top_dead
        (λ e. proper i le_self le_self (sym o ∙ e ∙ d)))),
  )
    where
      o : σ.org (gp i) ≡ c (suc i)
      o = rdy.gap_org i le_self le_self

      d : σ.dst (gp i) ≡ c i
      d = rdy.gap_dst i le_self le_self

  run_fork : (i k j p q r : ℕ) → Ccw (c i) (c j) (c k) → p ≤ q → q ≤ r → i < k → k < j → Runs i k p q → Runs k j q r → Runs i j p (suc r)
  run_fork i k j p q r t pq qr ik kj f g P σ proper rdy =
      let w = cuts σ (slot r) (c i) (c j) (c k) (λ d l. rdy.slot_dead (3 * slot r + d) (record { at = r; k = d; low = omega arith; high = le_self; three = l; is = refl })) in
      let σ0 = cut_net σ (slot r) (c i) (c j) (c k) in
      let rl = ready_left W Ccw c gp slot i k j p q r P σ σ0 rdy t w pq qr ik kj in
      let a = f (3 * slot r + 2) σ0 (λ x l h. proper x l (omega arith)) rl in
      let dl = fill_done W Ccw c gp slot a.1 rl in
      let b = g (3 * slot r + 1) a.0 (λ x l h. proper x (omega arith) h) (ready_right W Ccw c gp slot i k j p q r P σ σ0 rdy t w pq qr ik kj a.0 dl) in (
        join_net b.0 (3 * slot r) P,
        node {σ2 = b.0} {σ3 = join_net b.0 (3 * slot r) P} t w a.1 b.1
            (joins b.0 (3 * slot r) P (λ e. top_own W Ccw c gp slot i k j p q r P σ σ0 rdy t w pq qr ik kj 0 lt0 (sym e ∙ is0 (slot r)))),
      )

  pub run : {i j p q : ℕ} → Plan Ccw c i j p q → Runs i j p q
  run (leaf {i = i} {p = p}) = run_gap i p
  run (fork {i = i} {k = k} {j = j} {p = p} {q = q} {r = r} t f g) = run_fork i k j p q r t (plan_slots f) (plan_slots g) (plan_part f) (plan_part g) (run f) (run g)

  module _ (n m q r PL PR : ℕ) (σ : Net) (opn : Opened W c gp slot n m r PL PR σ) (qr : q ≤ r) (two : ¬ (c n ≡ c 0)) (f : Plan Ccw c 0 n 0 q)
      (g : Plan Ccw c n m q (suc r)) (proper : Proper c 0 m) where
    nm : n < m
    nm = plan_part g

    ready0 : Ready W c gp slot 0 n 0 q PL σ
    ready0 = left_ready W Ccw c gp slot n m q r PL PR σ opn qr nm

    run1 : (σ' : Net) × Fill Ccw c gp slot 0 n 0 q PL σ σ'
    run1 = run f PL σ (λ x l h. proper x l (let k = nm in omega arith)) ready0

    done1 : Done W Ccw gp slot 0 n 0 q PL σ run1.0
    done1 = fill_done W Ccw c gp slot run1.1 ready0

    ready1 : Ready W c gp slot n m q (suc r) PR run1.0
    ready1 = right_ready W Ccw c gp slot n m q r PL PR σ opn qr nm run1.0 done1

    run2 : (σ' : Net) × Fill Ccw c gp slot n m q (suc r) PR run1.0 σ'
    run2 = run g PR run1.0 (λ x l h. proper x (omega arith) h) ready1

    done2 : Done W Ccw gp slot n m q (suc r) PR run1.0 run2.0
    done2 = fill_done W Ccw c gp slot run2.1 ready1

    top2 : (run2.0.has PR ≡ true) × (run2.0.mate PR ≡ 3 * slot r) × (run2.0.mark PR ≡ 0)
    top2 = fill_top Ccw c gp slot run2.1 r refl qr

    dropped : Dropped run2.0 (drop_net run2.0 PR (3 * slot r)) PR (3 * slot r)
    dropped = drops run2.0 PR (3 * slot r) (not_root W Ccw c gp slot n m q r PL PR σ opn qr nm run1.0 done1 run2.0 done2 top2 PR opn.right_out)

    org_left : (drop_net run2.0 PR (3 * slot r)).org PL ≡ c n
    org_left = (dropped.same PL).org ∙ org2 W Ccw c gp slot n m q r PL PR σ opn qr nm run1.0 done1 run2.0 done2 top2 PL opn.left_out ∙ opn.left_org

    dst_left : (drop_net run2.0 PR (3 * slot r)).dst PL ≡ c 0
    dst_left = (dropped.same PL).dst ∙ dst2 W Ccw c gp slot n m q r PL PR σ opn qr nm run1.0 done1 run2.0 done2 top2 PL opn.left_out ∙ opn.left_dst

    moved : Moved (drop_net run2.0 PR (3 * slot r)) (park_net (drop_net run2.0 PR (3 * slot r)) PL (3 * slot r)) PL (3 * slot r)
    moved =
        moves (drop_net run2.0 PR (3 * slot r)) (park_net (drop_net run2.0 PR (3 * slot r)) PL (3 * slot r)) PL (3 * slot r)
        ((dropped.same (3 * slot r)).org ∙ root_org W Ccw c gp slot n m q r PL PR σ opn qr nm run1.0 done1 run2.0 done2 top2 ∙ sym org_left)
        ((dropped.same (3 * slot r)).dst ∙ root_dst W Ccw c gp slot n m q r PL PR σ opn qr nm run1.0 done1 run2.0 done2 top2 ∙ sym dst_left)
        (parks W (drop_net run2.0 PR (3 * slot r)) PL (3 * slot r)
        (inv3 W Ccw c gp slot n m q r PL PR σ opn qr nm run1.0 done1 run2.0 done2 top2 (drop_net run2.0 PR (3 * slot r)) dropped)
        (live3 W Ccw c gp slot n m q r PL PR σ opn qr nm run1.0 done1 run2.0 done2 top2 (drop_net run2.0 PR (3 * slot r)) dropped)
        dropped.dead_y (λ e. two (sym org_left ∙ e ∙ dst_left)))

    pub close_run : Closes Ccw c gp slot n m q r PL PR σ
    close_run = record {
      σ1 = run1.0;
      σ2 = run2.0;
      σ3 = drop_net run2.0 PR (3 * slot r);
      σ4 = park_net (drop_net run2.0 PR (3 * slot r)) PL (3 * slot r);
      closing = record { left = run1.1; right = run2.1; some = qr; drop = dropped; move = moved };
    }
