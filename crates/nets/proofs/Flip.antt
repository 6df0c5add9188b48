-- A flip keeps a net linked: t = (a, b, c) and n = (b, a, d), across half-edge h from a to b and its partner g, become (a, d, c) in slot t
-- and (d, b, c) in slot n. Assumes nothing.
use mathlib.Core.Bool.{true}
use mathlib.Core.Logic.{◌⊎◌, inl, inr}
use mathlib.Core.Path.{◌≡◌, refl, sym, ap, ◌∙◌, subst}
use Prim.Native.Nat.{ℕ, suc, ◌+◌, ◌*◌, ◌/◌, ◌<◌, ◌≤◌}
use native.Mathlib.Decide.{ℕ_discrete}
use native.Mathlib.Omega.{arith}
use lib.Dec.{eqb}
use Rattle.algebra.proofs.Sum.{eqb_no, eqb_yes}
use Rattle.plane.proofs.Halfedges.{nxt0, nxt1, nxt2}
use Rattle.plane.specs.Halfedges.{nxt}
use Rattle.nets.specs.Moves.{after, mv}
use Rattle.nets.specs.Nets.{Net, dst, Linked, prv}
use Rattle.nets.specs.Slots.{put}
use Rattle.nets.specs.Steps.{flip_moves, flip_raw, flip}
use Rattle.nets.proofs.Net.{to}
use Rattle.nets.proofs.Slot.{slot0, slot1, slot2, nxt_slot, nxt_slot2, nxt_in, nxt_three, nxt_not, nxt_not2, Turn, it, one, two, turn, Edge, e0, e1, e2, edge, put_0, put_1, put_2, puts_0, puts_1, puts_2, puts_off}
use Rattle.nets.proofs.Surgery.{ren, All, here, there, Moved, New, moved, paired, Old, moves, gone, Surgery, sewn}

-- slots t and n
abbrev pub Two : ℕ → ℕ → ℕ → Type 0
Two t n s = (s ≡ t) ⊎ (s ≡ n)

-- no edge's ends have one number
abbrev pub Apart : Net → Type 0
Apart m = (x : ℕ) → x < 3 * m.tris → ¬ (m.org x ≡ dst m x)

suc_inj : (a b : ℕ) → suc a ≡ suc b → a ≡ b
suc_inj a b e = omega arith

module _ {S : ℕ → ℕ → Type 0} {m : Net} (l : Linked S m) (ap' : Apart m) where
  -- a partner is in another triangle
  pub same_slot : (x o : ℕ) → x < 3 * m.tris → m.adj x ≡ suc o → o / 3 ≡ x / 3 → ⊥
  same_slot x o b e s = go (turn x o s)
    where
      go : Turn x o → ⊥
      go (it q) = ap' x b (sym (ap m.org q) ∙ l.from x o b e)
      go (one q) = ap' (prv x) (nxt_in (nxt x) m.tris (nxt_in x m.tris b)) (sym (ap (λ (y : ℕ). m.org (nxt y)) q) ∙ to l x o b e ∙ ap m.org (sym (nxt_three x)))
      go (two q) = ap' (nxt x) (nxt_in x m.tris b) (sym (l.from x o b e) ∙ ap m.org q)

  module _ (h g : ℕ) (hb : h < 3 * m.tris) (pair : m.adj h ≡ suc g) (cd : ¬ (m.org (prv h) ≡ m.org (prv g))) where
    gb : g < 3 * m.tris
    gb = l.low h g hb pair

    back : m.adj g ≡ suc h
    back = l.back h g hb pair

    tn : ¬ (g / 3 ≡ h / 3)
    tn s = same_slot h g hb pair s

    -- the outer half-edges of the two are not partners
    cross : (x o : ℕ) → x < 3 * m.tris → m.adj x ≡ suc o → Turn h x → Turn g o → ¬ (x ≡ h) → ⊥
    cross x o b e (it q) s n = n q
    cross x o b e (one q) (it r) n = n (suc_inj x h (sym (l.back x o b e) ∙ ap m.adj r ∙ back))
    cross x o b e (one q) (one r) n =
        ap' (prv h) (nxt_in (nxt h) m.tris (nxt_in h m.tris hb)) (sym (ap (λ (y : ℕ). dst m y) q) ∙ sym (l.from x o b e) ∙ ap m.org r ∙ to l h g hb pair ∙ ap m.org (sym (nxt_three h)))
    cross x o b e (one q) (two r) n = cd (sym (ap (λ (y : ℕ). dst m y) q) ∙ sym (l.from x o b e) ∙ ap m.org r)
    cross x o b e (two q) (it r) n = n (suc_inj x h (sym (l.back x o b e) ∙ ap m.adj r ∙ back))
    cross x o b e (two q) (one r) n = cd (sym (ap m.org q) ∙ sym (to l x o b e) ∙ ap (λ (y : ℕ). dst m y) r)
    cross x o b e (two q) (two r) n =
        ap' (nxt g) (nxt_in g m.tris gb) (to l h g hb pair ∙ ap m.org (sym (nxt_three h)) ∙ sym (ap (λ (y : ℕ). dst m y) q) ∙ sym (l.from x o b e) ∙ ap m.org r)

    D : ℕ → Type 0
    D s = (s ≡ h / 3) ⊎ (s ≡ g / 3)

    -- the partner of an outer half-edge lies elsewhere
    out_h : (x o : ℕ) → x < 3 * m.tris → x / 3 ≡ h / 3 → ¬ (x ≡ h) → m.adj x ≡ suc o → ¬ D (o / 3)
    unfolding D
    out_h x o b s n e (inl q) = same_slot x o b e (q ∙ sym s)
    out_h x o b s n e (inr q) = cross x o b e (turn h x s) (turn g o q) n

    out_g : (x o : ℕ) → x < 3 * m.tris → x / 3 ≡ g / 3 → ¬ (x ≡ g) → m.adj x ≡ suc o → ¬ D (o / 3)
    unfolding D
    out_g x o b s n e (inr q) = same_slot x o b e (q ∙ sym s)
    out_g x o b s n e (inl q) =
        cross o x (l.low x o b e) (l.back x o b e) (turn h o q) (turn g x s)
        (λ r. n (suc_inj x g (sym (l.back x o b e) ∙ ap m.adj r ∙ pair)))

    t : ℕ
    t = h / 3

    n : ℕ
    n = g / 3

    -- what the new triangles read
    r : Net
    r = flip_raw m h g

    record Reads (f' f : ℕ → ℕ) (x0 x1 x2 y0 y1 y2 : ℕ) : Type 0 where
      r0 : f' (3 * (h / 3)) ≡ x0
      r1 : f' (3 * (h / 3) + 1) ≡ x1
      r2 : f' (3 * (h / 3) + 2) ≡ x2
      q0 : f' (3 * (g / 3)) ≡ y0
      q1 : f' (3 * (g / 3) + 1) ≡ y1
      q2 : f' (3 * (g / 3) + 2) ≡ y2
      off : (x : ℕ) → ¬ D (x / 3) → f' x ≡ f x

    reads : (f : ℕ → ℕ) (x0 x1 x2 y0 y1 y2 : ℕ) → Reads (put (put f (h / 3) x0 x1 x2) (g / 3) y0 y1 y2) f x0 x1 x2 y0 y1 y2
    unfolding D
    reads f x0 x1 x2 y0 y1 y2 = record {
      r0 = puts_0 f (h / 3) (g / 3) x0 x1 x2 y0 y1 y2 tn;
      r1 = puts_1 f (h / 3) (g / 3) x0 x1 x2 y0 y1 y2 tn;
      r2 = puts_2 f (h / 3) (g / 3) x0 x1 x2 y0 y1 y2 tn;
      q0 = put_0 (put f (h / 3) x0 x1 x2) (g / 3) y0 y1 y2;
      q1 = put_1 (put f (h / 3) x0 x1 x2) (g / 3) y0 y1 y2;
      q2 = put_2 (put f (h / 3) x0 x1 x2) (g / 3) y0 y1 y2;
      off = λ x k. puts_off f (h / 3) (g / 3) x0 x1 x2 y0 y1 y2 tn x (λ e. k (inl e)) (λ e. k (inr e));
    }

    org' : Reads r.org m.org (m.org h) (m.org (prv g)) (m.org (prv h)) (m.org (prv g)) (m.org (nxt h)) (m.org (prv h))
    unfolding r flip_raw
    org' = reads m.org (m.org h) (m.org (prv g)) (m.org (prv h)) (m.org (prv g)) (m.org (nxt h)) (m.org (prv h))

    adj' : Reads r.adj m.adj (m.adj (nxt g)) (suc (3 * (g / 3) + 2)) (m.adj (prv h)) (m.adj (prv g)) (m.adj (nxt h)) (suc (3 * (h / 3) + 1))
    unfolding r flip_raw
    adj' = reads m.adj (m.adj (nxt g)) (suc (3 * (g / 3) + 2)) (m.adj (prv h)) (m.adj (prv g)) (m.adj (nxt h)) (suc (3 * (h / 3) + 1))

    con' : Reads r.con m.con (m.con (nxt g)) 0 (m.con (prv h)) (m.con (prv g)) (m.con (nxt h)) 0
    unfolding r flip_raw
    con' = reads m.con (m.con (nxt g)) 0 (m.con (prv h)) (m.con (prv g)) (m.con (nxt h)) 0

    dst' : Reads (λ x. dst r x) (λ x. dst m x) (m.org (prv g)) (m.org (prv h)) (m.org h) (m.org (nxt h)) (m.org (prv h)) (m.org (prv g))
    dst' = record {
      r0 = ap r.org (nxt0 (h / 3)) ∙ org'.r1;
      r1 = ap r.org (nxt1 (h / 3)) ∙ org'.r2;
      r2 = ap r.org (nxt2 (h / 3)) ∙ org'.r0;
      q0 = ap r.org (nxt0 (g / 3)) ∙ org'.q1;
      q1 = ap r.org (nxt1 (g / 3)) ∙ org'.q2;
      q2 = ap r.org (nxt2 (g / 3)) ∙ org'.q0;
      off = λ x k. org'.off (nxt x) (rw nxt_slot k);
    }

    tris' : r.tris ≡ m.tris
    unfolding r flip_raw
    tris' = refl

    in0 : (x : ℕ) → x < 3 * m.tris → 3 * (x / 3) < 3 * r.tris
    in0 x b = rw tris' (let k : 3 * (x / 3) < 3 * m.tris = omega arith in k)

    in1 : (x : ℕ) → x < 3 * m.tris → 3 * (x / 3) + 1 < 3 * r.tris
    in1 x b = rw tris' (let k : 3 * (x / 3) + 1 < 3 * m.tris = omega arith in k)

    in2 : (x : ℕ) → x < 3 * m.tris → 3 * (x / 3) + 2 < 3 * r.tris
    in2 x b = rw tris' (let k : 3 * (x / 3) + 2 < 3 * m.tris = omega arith in k)

    all_moved : All (Moved m r D) (flip_moves h g)
    unfolding flip_moves D
    all_moved = (
      record {
        old_in = nxt_in g m.tris gb;
        new_in = in0 h hb;
        old_d = inr (nxt_slot g);
        new_d = inl (slot0 (h / 3));
        adj_is = adj'.r0;
        org_is = org'.r0 ∙ sym (to l h g hb pair);
        dst_is = dst'.r0;
        con_is = con'.r0;
        out = λ o e. out_g (nxt g) o (nxt_in g m.tris gb) (nxt_slot g) (nxt_not g) e;
      },
      (
        record {
          old_in = nxt_in (nxt h) m.tris (nxt_in h m.tris hb);
          new_in = in2 h hb;
          old_d = inl (nxt_slot2 h);
          new_d = inl (slot2 (h / 3));
          adj_is = adj'.r2;
          org_is = org'.r2;
          dst_is = dst'.r2 ∙ ap m.org (sym (nxt_three h));
          con_is = con'.r2;
          out = λ o e. out_h (prv h) o (nxt_in (nxt h) m.tris (nxt_in h m.tris hb)) (nxt_slot2 h) (nxt_not2 h) e;
        },
        (
          record {
            old_in = nxt_in (nxt g) m.tris (nxt_in g m.tris gb);
            new_in = in0 g gb;
            old_d = inr (nxt_slot2 g);
            new_d = inr (slot0 (g / 3));
            adj_is = adj'.q0;
            org_is = org'.q0;
            dst_is = dst'.q0 ∙ sym (l.from h g hb pair)
                ∙ ap m.org (sym (nxt_three g));
            con_is = con'.q0;
            out = λ o e. out_g (prv g) o (nxt_in (nxt g) m.tris (nxt_in g m.tris gb)) (nxt_slot2 g) (nxt_not2 g) e;
          },
          (
            record {
              old_in = nxt_in h m.tris hb;
              new_in = in1 g gb;
              old_d = inl (nxt_slot h);
              new_d = inr (slot1 (g / 3));
              adj_is = adj'.q1;
              org_is = org'.q1;
              dst_is = dst'.q1;
              con_is = con'.q1;
              out = λ o e. out_h (nxt h) o (nxt_in h m.tris hb) (nxt_slot h) (nxt_not h) e;
            },
            tt,
          ),
        ),
      ),
    )

    -- half-edges in the two slots are not each other
    ne : (x y : ℕ) → x / 3 ≡ g / 3 → y / 3 ≡ h / 3 → ¬ (x ≡ y)
    ne x y a b e = tn (sym a ∙ ap (λ (z : ℕ). z / 3) e ∙ b)

    en : (x y : ℕ) → x / 3 ≡ h / 3 → y / 3 ≡ g / 3 → ¬ (x ≡ y)
    en x y a b e = tn (sym b ∙ ap (λ (z : ℕ). z / 3) (sym e) ∙ a)

    self : (x : ℕ) → eqb x x ≡ true
    self x = eqb_yes x x refl

    ren_at : All (λ v. ren (flip_moves h g) v.old ≡ v.new) (flip_moves h g)
    unfolding flip_moves ren
    ren_at = (
      rw (self (nxt g)),
      (
        rw (eqb_no (nxt g) (prv h) (ne (nxt g) (prv h) (nxt_slot g) (nxt_slot2 h)), self (prv h)),
        (
          rw (eqb_no (nxt g) (prv g) (λ e. nxt_not (nxt g) (sym e)), eqb_no (prv h) (prv g) (en (prv h) (prv g) (nxt_slot2 h) (nxt_slot2 g)), self (prv g)),
          (
            rw (
              eqb_no (nxt g) (nxt h) (ne (nxt g) (nxt h) (nxt_slot g) (nxt_slot h)),
              eqb_no (prv h) (nxt h) (nxt_not (nxt h)),
              eqb_no (prv g) (nxt h) (ne (prv g) (nxt h) (nxt_slot2 g) (nxt_slot h)),
              self (nxt h),
            ),
            tt,
          ),
        ),
      ),
    )

    old_all : (x : ℕ) → x < 3 * m.tris → D (x / 3) → Old m D (flip_moves h g) x
    unfolding flip_moves D
    old_all x b (inl s) = go (turn h x s)
      where
        go : Turn h x → Old m D (flip_moves h g) x
        go (it q) = gone (λ o e. inr (ap (λ (z : ℕ). z / 3) (suc_inj o g (sym e ∙ ap m.adj q ∙ pair))))
        go (one q) = moves (mv (nxt h) (3 * (g / 3) + 1)) (there (there (there here))) (sym q)
        go (two q) = moves (mv (prv h) (3 * (h / 3) + 2)) (there here) (sym q)
    old_all x b (inr s) = go (turn g x s)
      where
        go : Turn g x → Old m D (flip_moves h g) x
        go (it q) = gone (λ o e. inl (ap (λ (z : ℕ). z / 3) (suc_inj o h (sym e ∙ ap m.adj q ∙ back))))
        go (one q) = moves (mv (nxt g) (3 * (h / 3))) here (sym q)
        go (two q) = moves (mv (prv g) (3 * (g / 3))) (there (there here)) (sym q)

    new_all : (x : ℕ) → x < 3 * r.tris → D (x / 3) → New S r D (flip_moves h g) x
    unfolding flip_moves D
    new_all x b (inl s) = go (edge (h / 3) x s)
      where
        go : Edge (h / 3) x → New S r D (flip_moves h g) x
        go (e0 q) = moved (mv (nxt g) (3 * (h / 3))) here (sym q)
        go (e1 q) = subst (New S r D (flip_moves h g)) (sym q) (paired (3 * (g / 3) + 2) (in2 g gb) (inr (slot2 (g / 3))) adj'.r1 adj'.q2 (org'.q2 ∙ sym dst'.r1) (con'.q2 ∙ sym con'.r1))
        go (e2 q) = moved (mv (prv h) (3 * (h / 3) + 2)) (there here) (sym q)
    new_all x b (inr s) = go (edge (g / 3) x s)
      where
        go : Edge (g / 3) x → New S r D (flip_moves h g) x
        go (e0 q) = moved (mv (prv g) (3 * (g / 3))) (there (there here)) (sym q)
        go (e1 q) = moved (mv (nxt h) (3 * (g / 3) + 1)) (there (there (there here))) (sym q)
        go (e2 q) = subst (New S r D (flip_moves h g)) (sym q) (paired (3 * (h / 3) + 1) (in1 h hb) (inl (slot1 (h / 3))) adj'.q2 adj'.r1 (org'.r1 ∙ sym dst'.q2) (con'.r1 ∙ sym con'.q2))

    dec : (s : ℕ) → Dec (D s)
    unfolding D
    dec s = go (ℕ_discrete s (h / 3)) (ℕ_discrete s (g / 3))
      where
        go : Dec (s ≡ h / 3) → Dec (s ≡ g / 3) → Dec ((s ≡ h / 3) ⊎ (s ≡ g / 3))
        go (yes e) k = yes (inl e)
        go (no i) (yes e) = yes (inr e)
        go (no i) (no j) = no (λ d. elim d [ inl e ↦ i e | inr e ↦ j e ])

    surgery : Surgery S m r D (flip_moves h g)
    surgery = record {
      dec = dec;
      off_in = λ x k b. rw tris' at b;
      grow = rw tris' (let k : m.tris ≤ m.tris = omega arith in k);
      off_org = org'.off;
      off_adj = adj'.off;
      off_con = con'.off;
      all_moved = all_moved;
      ren_at = ren_at;
      old_all = old_all;
      new_all = new_all;
    }

    pub flip_linked : Linked S (flip m h g)
    unfolding flip r
    flip_linked = sewn l surgery

    pub flip_tris : (flip m h g).tris ≡ m.tris
    unfolding flip after flip_raw
    flip_tris = refl

    -- the corners after it
    pub record Corners : Type 0 where
      pub t0 : (flip m h g).org (3 * (h / 3)) ≡ m.org h
      pub t1 : (flip m h g).org (3 * (h / 3) + 1) ≡ m.org (prv g)
      pub t2 : (flip m h g).org (3 * (h / 3) + 2) ≡ m.org (prv h)
      pub n0 : (flip m h g).org (3 * (g / 3)) ≡ m.org (prv g)
      pub n1 : (flip m h g).org (3 * (g / 3) + 1) ≡ m.org (nxt h)
      pub n2 : (flip m h g).org (3 * (g / 3) + 2) ≡ m.org (prv h)
      pub off : (x : ℕ) → ¬ (x / 3 ≡ h / 3) → ¬ (x / 3 ≡ g / 3) → (flip m h g).org x ≡ m.org x

    pub flip_org : Corners
    unfolding flip after r D
    flip_org = record { t0 = org'.r0; t1 = org'.r1; t2 = org'.r2; n0 = org'.q0; n1 = org'.q1; n2 = org'.q2; off = λ x i j. org'.off x (λ d. elim d [ inl e ↦ i e | inr e ↦ j e ]) }

    -- the partners of the outer half-edges lie in neither triangle
    pub outer_h : (x o : ℕ) → x < 3 * m.tris → x / 3 ≡ h / 3 → ¬ (x ≡ h) → m.adj x ≡ suc o → (¬ (o / 3 ≡ h / 3)) × (¬ (o / 3 ≡ g / 3))
    unfolding D
    outer_h x o b s n' e = (λ q. out_h x o b s n' e (inl q), λ q. out_h x o b s n' e (inr q))

    pub outer_g : (x o : ℕ) → x < 3 * m.tris → x / 3 ≡ g / 3 → ¬ (x ≡ g) → m.adj x ≡ suc o → (¬ (o / 3 ≡ h / 3)) × (¬ (o / 3 ≡ g / 3))
    unfolding D
    outer_g x o b s n' e = (λ q. out_g x o b s n' e (inl q), λ q. out_g x o b s n' e (inr q))

    pub two_slots : ¬ (g / 3 ≡ h / 3)
    two_slots = tn

    pub flip_surgery : Surgery S m (flip_raw m h g) (Two (h / 3) (g / 3)) (flip_moves h g)
    unfolding r D
    flip_surgery = surgery
