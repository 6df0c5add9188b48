-- What the parts of the cutter ask for and leave, put together. Assumes nothing.
use borrow.Author.Tests.{ltb-false}
use mathlib.Core.Bool.{Bool, false}
use mathlib.Core.List.{List}
use mathlib.Core.Path.{◌≡◌, refl, sym, ap, ◌∙◌, subst}
use Prim.Native.Nat.{ℕ, ◌+◌, ◌-◌, ◌*◌, ◌<◌, ◌≤◌}
use native.Mathlib.Omega.{arith}
use lib.Dec.{ltb}
use lib.IntN.{ℤ}
use lib.ListN.{length, take}
use Rattle.tables.specs.Answers.{Paper, yes, of_refusal}
use Rattle.tables.specs.Data.{point_count, pair_count, point, base}
use Rattle.tables.specs.Figures.{Figure}
use Rattle.tables.specs.Refusals.{rows, short_work, short_room}
use Rattle.tables.specs.Verdicts.{verdict, cleared, left_work}
use Rattle.tables.specs.declared.Refusal.{Refusal}
use Rattle.tables.proofs.Table.{Silent, silent, silent_rows, or_false}
use Rattle.tables.proofs.Figures.{figure}
use Rattle.nets.specs.Layout.{net_of, Kept}
use Rattle.nets.specs.Tilings.{Tiling}
use Rattle.rooms.specs.Rest.{Rest}
use Rattle.rooms.proofs.Cleared.{cleared_over, rest_cleared}
use Rattle.rooms.proofs.Rooms.{refusal_not_yes}
use Rattle.sheets.specs.Sheets.{SheetWritten}
use Rattle.sheets.proofs.Keeps.{sheet_accepted}
use Rattle.stages.proofs.Agree.{Agrees, paired_too}
use Rattle.stages.proofs.Stages.{started, finished, ends}
use Rattle.builder.specs.Stages.{Delaunay}
use Rattle.carving.specs.Clearing.{Cleared, Ranged}
use Rattle.carving.proofs.Clears.{cleared_net, cleared_kept, cleared_room, ranged_tiling}
use Rattle.recovery.specs.Lines.{Lined}
use Rattle.cutter.specs.Cuts.{asked, of_outcome, Written, Passed, Passed.sheet, Passed.stuck, Cutting}
use Rattle.std.specs.Prelude.{Result, Err}

module _ (ps : List ℤ) (qs out w : List ℕ) (e : asked ps qs (length out) (length w) ≡ yes) where
  abbrev n : ℕ
  n = point_count ps

  quiet : Silent false (short_room n (length out) (length w)) ps qs
  quiet = silent false (short_room n (length out) (length w)) ps qs e

  pub is_figure : Figure ps
  is_figure = figure false (short_room n (length out) (length w)) ps qs e

  rooms : (ltb (length out) (3 * (2 * n - 5)) ≡ false) × (short_work n (length w) ≡ false)
  rooms = or_false (ltb (length out) (3 * (2 * n - 5))) (short_work n (length w)) quiet.row3

  pub work_room : 64 * n ≤ length w
  work_room = ltb-false (length w) (64 * n) rooms.1

  pub out_room : 3 * (2 * n - 5) ≤ length out
  out_room = ltb-false (length out) (3 * (2 * n - 5)) rooms.0

  -- the checker's own rows pass, too
  its_rows : rows false (short_work n (length w)) ps qs ≡ yes
  its_rows = silent_rows false (short_work n (length w)) ps qs
      (record {
        row1 = quiet.row1;
        row2 = quiet.row2;
        row3 = rooms.1;
        row4 = quiet.row4;
        row5 = quiet.row5;
        row6 = quiet.row6;
        row7 = quiet.row7;
        row8 = quiet.row8;
        row9 = quiet.row9;
        row10 = quiet.row10;
      })

  -- ---- the points are in

  module _ {w1 : List ℕ} {T : ℕ} (b : Delaunay ps w w1 T) where
    tile : Tiling (point ps) (base ps) (point_count ps) (net_of w1 T)
    tile = b.built.1.tile

    pub few : T + 5 ≤ 2 * n
    unfolding net_of
    few = b.built.1.few

    real : 0 < T
    unfolding net_of
    real = let z = b.built.1.newest in omega arith

    fresh : Ranged n T w1
    fresh = ranged_tiling n T w1 tile (let z : n ≤ n = omega arith in z) is_figure.enough is_figure.few few real (rw b.size work_room)

    pub clear_asked : (n ≤ 4096) × (T ≤ 4 * n) × (64 * n ≤ length w1)
    clear_asked = let a = few in (is_figure.few, omega arith, fresh.long)

    module _ {w2 : List ℕ} (c : Cleared n T w1 w2) where
      agrees : Agrees (net_of w1 T) (net_of w2 T)
      unfolding net_of
      agrees = let s = cleared_net c in record { tris = refl; org = s.org; adj = s.adj; con = s.con }

      -- the pairs may come
      pub lined : Lined ps qs 0 w2 T
      lined = record {
        figure = is_figure;
        ends = λ i l. ends false (short_room n (length out) (length w)) ps qs e i l;
        room = cleared_room c fresh;
        ranks = λ i l. (cleared_kept c).ranks i ∙ b.ranks i l;
        paired = paired_too agrees (started ps qs b.built.1);
      }

      -- what stands behind the first 64n numbers is as it was
      rest2 : Rest (64 * n) w w2
      rest2 = let k = cleared_kept c in record { size = k.len ∙ b.size; same = λ p l. k.rest p l ∙ b.rest p l }

      module _ {w3 : List ℕ} (k : Kept n w2 w3) where
        rest3 : Rest (64 * n) w w3
        rest3 = record { size = k.len ∙ rest2.size; same = λ p l. k.rest p l ∙ rest2.same p l }

        pub long3 : 64 * n ≤ length w3
        long3 = rw rest3.size work_room

        -- a pair is stuck
        pub stuck_left : {w4 : List ℕ} → w4 ≡ cleared (64 * n) w3 → w4 ≡ cleared (64 * n) w
        stuck_left i = i ∙ cleared_over (64 * n) w w3 rest3

        -- all pairs are in
        module _ (a : Lined ps qs (pair_count qs) w3 T) where
          pub sheet_asked : (T ≤ 2 * n) × (64 * n ≤ length w3) × (3 * T ≤ length out)
          sheet_asked = let f = few in let o = out_room in (omega arith, long3, omega arith)

          module _ {w4 out' : List ℕ} (s : SheetWritten n T w3 out w4 out') where
            rest4 : Rest (64 * n) w w4
            rest4 = record { size = s.work_size ∙ rest3.size; same = λ p l. s.rest p l ∙ rest3.same p l }

            pub long4 : 64 * n ≤ length w4
            long4 = rw rest4.size work_room

            pub sheet_left : {w5 : List ℕ} → w5 ≡ cleared (64 * n) w4 → w5 ≡ cleared (64 * n) w
            sheet_left i = i ∙ cleared_over (64 * n) w w4 rest4

            pub written : Written ps qs out w out' T
            unfolding net_of
            written = record {
              accepted = sheet_accepted ps qs (take (3 * T) out') (net_of w3 T) (length w) its_rows (finished ps qs is_figure a.paired) s.listed;
              count = a.paired.count;
              size = s.out_size;
              rest = s.behind;
            }

-- ---- the whole call

-- what passes leaves the working area cleared
pub passed_left : {ps : List ℤ} {qs out w out' : List ℕ} {r : Result ℕ Refusal} → Passed ps qs out w out' r → left_work (of_outcome r) (point_count ps) w ≡ cleared (64 * point_count ps) w
passed_left (sheet T s) = refl
passed_left (stuck k l g e) = refl

-- what passes with a working area passes with another as long
passed_too : {ps : List ℤ} {qs out w w1 out' : List ℕ} {r : Result ℕ Refusal} → length w1 ≡ length w → Passed ps qs out w1 out' r → Passed ps qs out w out' r
passed_too {ps} {qs} {out' = out'} e (sheet T s) =
    sheet T (record {
      accepted = subst (λ (k : ℕ). verdict ps qs (take (3 * T) out') k ≡ yes) e s.accepted;
      count = s.count;
      size = s.size;
      rest = s.rest;
    })
passed_too e (stuck k l g q) = stuck k l g q

module _ (ps : List ℤ) (qs out w : List ℕ) {short : Bool} (i : short ≡ short_room (point_count ps) (length out) (length w)) where
  same : rows false short ps qs ≡ asked ps qs (length out) (length w)
  same = ap (λ (b : Bool). rows false b ps qs) i

  -- where the rooms are long enough, the working area is
  pub rows_asked : short ≡ false → 64 * point_count ps ≤ length w
  rows_asked e = ltb-false (length w) (64 * point_count ps) (or_false (ltb (length out) (3 * (2 * point_count ps - 5))) (short_work (point_count ps) (length w)) (sym i ∙ e)).1

  -- what the rows leave in the working area
  module _ {w1 : List ℕ} (j : w1 ≡ left_work (rows false short ps qs) (point_count ps) w) where
    -- none refuses, and the working area is clear
    module _ (t : yes ≡ rows false short ps qs) where
      clear1 : w1 ≡ cleared (64 * point_count ps) w
      clear1 = j ∙ ap (λ (p : Paper). left_work p (point_count ps) w) (sym t)

      rest1 : Rest (64 * point_count ps) w w1
      rest1 = rest_cleared (64 * point_count ps) clear1

      none_refuses : asked ps qs (length out) (length w) ≡ yes
      none_refuses = sym (t ∙ same)

      pub passed_so : {out' w' : List ℕ} {r : Result ℕ Refusal} → Passed ps qs out w1 out' r → w' ≡ cleared (64 * point_count ps) w1 → Cutting ps qs out w out' w' r
      passed_so p l = record {
        refused = λ n. absurd (n none_refuses);
        passed = λ y. passed_too rest1.size p;
        left = l ∙ cleared_over (64 * point_count ps) w w1 rest1 ∙ sym (passed_left (passed_too rest1.size p));
      }
