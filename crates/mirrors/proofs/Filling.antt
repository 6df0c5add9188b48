-- What the code's filling does to the working area is a filling of the model, wherever that is ready for one. Assumes nothing.
use mathlib.Core.Bool.{true}
use mathlib.Core.List.{List}
use mathlib.Core.Path.{◌≡◌, refl, sym, ap, ◌∙◌, subst}
use Prim.Native.Nat.{ℕ, suc, ◌+◌, ◌*◌, ◌≤◌, ◌<◌}
use native.Mathlib.Omega.{arith}
use lib.IntN.{ℤ}
use lib.ListN.{length}
use Rattle.algebra.proofs.Order.{pos_by}
use Rattle.plane.specs.Determinants.{orient}
use Rattle.plane.specs.Points.{Pt}
use Rattle.plane.proofs.Cover.{apart}
use Rattle.plane.proofs.Orient.{orient_cyc}
use Rattle.plane.proofs.Sign.{posb_pos}
use Rattle.cavities.specs.Changes.{Moved, Joined}
use Rattle.cavities.specs.Fillings.{Slots, Cut, Fill, gap, node, Ready, Done}
use Rattle.cavities.specs.Leaves.{join_net, park_net}
use Rattle.cavities.specs.Nets.{Net, Live, World}
use Rattle.cavities.specs.Tilings.{CcwP}
use Rattle.cavities.proofs.Fill.{fill_done, ready_left, ready_right, top_own, le_self, is0, lt0}
use Rattle.cavities.proofs.Leaves.{parks, joins}
use Rattle.cavities.proofs.Run.{cuts, moves}
use Rattle.chains.specs.Areas.{move_w, join_w, cut_w}
use Rattle.chains.specs.Fillings.{FillW}
use Rattle.chains.specs.Fillings.FillW.{gap as gapW, node as nodeW}
use Rattle.chains.specs.Scans.{left_of}
use Rattle.mirrors.specs.Models.{Ghost, model_of, park_g, join_g}
use Rattle.mirrors.proofs.Memory.{model_move, model_join, model_cut, adj_back, adj_fits, move_length, join_length, cut_length}

module _ (P : ℕ → Pt ℤ) where
  pub turns : (a b c : ℕ) → left_of P a b c ≡ true → CcwP P a b c
  unfolding left_of
  turns a b c e = posb_pos (orient (P a) (P b) (P c)) e

  -- the corners of a triangle are three points
  pub ab_apart : (a b c : ℕ) → CcwP P a b c → ¬ (a ≡ b)
  ab_apart a b c t e = apart (P a) (P b) (P c) t (ap P e)

  pub turned : (a b c : ℕ) → CcwP P a b c → CcwP P b c a
  turned a b c t = pos_by (sym (orient_cyc (P a) (P b) (P c))) t

  -- a filling has at least one gap, takes its slots in order, and where it has a triangle, its ends are two points
  pub fill_some : {G : ℕ} {c slot : ℕ → ℕ} {i j p q top : ℕ} {w w' : List ℕ} → FillW P G c slot i j p q top w w' → i < j
  fill_some (gapW {i = i} {j = j} e z) = omega arith
  fill_some (nodeW {i = i} {j = j} {k = k} l a t f g z) = let x = fill_some f in let y = fill_some g in omega arith

  pub fill_up : {G : ℕ} {c slot : ℕ → ℕ} {i j p q top : ℕ} {w w' : List ℕ} → FillW P G c slot i j p q top w w' → p ≤ q
  fill_up (gapW e z) = le_self
  fill_up (nodeW {p = p} {q = q} {r = r} l a t f g z) = let x = fill_up f in let y = fill_up g in omega arith

  pub fill_ends : {G : ℕ} {c slot : ℕ → ℕ} {i j p q top : ℕ} {w w' : List ℕ} → FillW P G c slot i j p q top w w' → i + 1 < j → ¬ (c j ≡ c i)
  fill_ends (gapW {i = i} {j = j} e z) l = λ _. none i j e l
    where
      none : (i j : ℕ) → j ≡ i + 1 → i + 1 < j → ⊥
      none i j e l = omega arith
  fill_ends {c = c} (nodeW {i = i} {j = j} {k = k} h a t f g z) l = λ e. ab_apart (c i) (c j) (c k) (turns (c i) (c j) (c k) t) (sym e)

module _ (P : ℕ → Pt ℤ) (W : World) (n : ℕ) (bound : W.bound ≤ 12 * n) (c slot : ℕ → ℕ) (m : ℕ) (low : (y : ℕ) → y < m → slot y < 2 * n) where
  abbrev gp : ℕ → ℕ
  gp x = 6 * n + x

  pub record Runs (i j p q top : ℕ) (w w' : List ℕ) (G : Ghost) : Type 0 where
    pub ghost : Ghost
    pub fill : Fill (CcwP P) c gp slot i j p q top (model_of n w G) (model_of n w' ghost)
    pub long : length w' ≡ length w

  abbrev pub Goes : ℕ → ℕ → ℕ → ℕ → ℕ → List ℕ → List ℕ → Type 0
  Goes i j p q top w w' = (G : Ghost) → 64 * n ≤ length w → ¬ (c j ≡ c i) → q ≤ m → Ready W c gp slot i j p q top (model_of n w G) → Runs i j p q top w w' G

  goes_gap : (i p top : ℕ) (w w' : List ℕ) → w' ≡ move_w w (gp i) top → Goes i (suc i) p p top w w'
  unfolding model_of
  goes_gap i p top w w' z G room proper few rdy = record { ghost = park_g n w G (gp i) top; fill = gap moved; long = ap length z ∙ move_length w (gp i) top }
    where
      lo : Live (model_of n w G) (gp i)
      lo = rdy.gap_live (gp i) (record { at = i; low = le_self; high = le_self; is = refl })

      o : (model_of n w G).org (gp i) ≡ c (suc i)
      o = rdy.gap_org i le_self le_self

      d : (model_of n w G).dst (gp i) ≡ c i
      d = rdy.gap_dst i le_self le_self

      eo : (model_of n w G).org top ≡ (model_of n w G).org (gp i)
      eo = rdy.top_org ∙ sym o

      ed : (model_of n w G).dst top ≡ (model_of n w G).dst (gp i)
      ed = rdy.top_dst ∙ sym d

      is : model_of n w' (park_g n w G (gp i) top) ≡ park_net (model_of n w G) (gp i) top
      is =
          ap (λ (v : List ℕ). model_of n v (park_g n w G (gp i) top)) z ∙
          model_move n w (gp i) top room (let l = rdy.top_low in omega arith) (let l = adj_fits W n w G rdy.inv (gp i) lo in omega arith)
          (adj_back W n w G rdy.inv (gp i) lo) G (λ _. eo) (λ _. ed)

      moved : Moved (model_of n w G) (model_of n w' (park_g n w G (gp i) top)) (gp i) top
      moved =
          subst (λ (τ : Net). Moved (model_of n w G) τ (gp i) top) (sym is)
          (moves (model_of n w G) (park_net (model_of n w G) (gp i) top) (gp i) top eo ed (parks W (model_of n w G) (gp i) top rdy.inv lo rdy.top_dead (λ e. proper (sym o ∙ e ∙ d))))

  goes_node : (i k j p q r top : ℕ) (w w1 w2 w3 : List ℕ) → CcwP P (c i) (c j) (c k) → p ≤ q → q ≤ r → i < k → k < j
      → Goes i k p q (3 * slot r + 2) (cut_w w (slot r) (c i) (c j) (c k)) w1 → Goes k j q r (3 * slot r + 1) w1 w2 → w3 ≡ join_w w2 (3 * slot r) top → Goes i j p (suc r) top w w3
  goes_node i k j p q r top w w1 w2 w3 t pq qr ik kj f g z G room proper few rdy =
      record { ghost = join_g b.ghost (3 * slot r) top; fill = node t cut a.fill b.fill joined; long = ap length z ∙ join_length w2 (3 * slot r) top ∙ long2 }
    where
      w0 : List ℕ
      w0 = cut_w w (slot r) (c i) (c j) (c k)

      s_low : slot r < 2 * n
      s_low = low r (omega arith)

      own : (d : ℕ) → d < 3 → Slots slot p (suc r) (3 * slot r + d)
      own d l = record { at = r; k = d; low = omega arith; high = le_self; three = l; is = refl }

      cut : Cut (model_of n w G) (model_of n w0 G) (slot r) (c i) (c j) (c k)
      cut =
          subst (λ (τ : Net). Cut (model_of n w G) τ (slot r) (c i) (c j) (c k)) (sym (model_cut n w (slot r) (c i) (c j) (c k) room (let l = s_low in omega arith) G))
          (cuts (model_of n w G) (slot r) (c i) (c j) (c k) (λ d l. rdy.slot_dead (3 * slot r + d) (own d l)))

      long0 : length w0 ≡ length w
      long0 = cut_length w (slot r) (c i) (c j) (c k)

      rl : Ready W c gp slot i k p q (3 * slot r + 2) (model_of n w0 G)
      rl = ready_left W (CcwP P) c gp slot i k j p q r top (model_of n w G) (model_of n w0 G) rdy t cut pq qr ik kj

      a : Runs i k p q (3 * slot r + 2) w0 w1 G
      a = f G (rw long0 room) (ab_apart P (c k) (c i) (c j) (turned P (c j) (c k) (c i) (turned P (c i) (c j) (c k) t))) (omega arith) rl

      dl : Done W (CcwP P) gp slot i k p q (3 * slot r + 2) (model_of n w0 G) (model_of n w1 a.ghost)
      dl = fill_done W (CcwP P) c gp slot a.fill rl

      long1 : length w1 ≡ length w
      long1 = a.long ∙ long0

      b : Runs k j q r (3 * slot r + 1) w1 w2 a.ghost
      b =
          g a.ghost (rw long1 room) (ab_apart P (c j) (c k) (c i) (turned P (c i) (c j) (c k) t)) (omega arith)
          (ready_right W (CcwP P) c gp slot i k j p q r top (model_of n w G) (model_of n w0 G) rdy t cut pq qr ik kj (model_of n w1 a.ghost) dl)

      long2 : length w2 ≡ length w
      long2 = b.long ∙ long1

      is : model_of n w3 (join_g b.ghost (3 * slot r) top) ≡ join_net (model_of n w2 b.ghost) (3 * slot r) top
      is =
          ap (λ (v : List ℕ). model_of n v (join_g b.ghost (3 * slot r) top)) z ∙
          model_join n w2 (3 * slot r) top (rw long2 room) (let l = s_low in omega arith) (let l = rdy.top_low in omega arith) b.ghost

      joined : Joined (model_of n w2 b.ghost) (model_of n w3 (join_g b.ghost (3 * slot r) top)) (3 * slot r) top
      joined =
          subst (λ (τ : Net). Joined (model_of n w2 b.ghost) τ (3 * slot r) top) (sym is)
          (joins (model_of n w2 b.ghost) (3 * slot r) top (λ e. top_own W (CcwP P) c gp slot i k j p q r top (model_of n w G) (model_of n w0 G) rdy t cut pq qr ik kj 0 lt0 (sym e ∙ is0 (slot r))))

  -- THE CODE'S FILLING IS THE MODEL'S
  pub fills : {i j p q top : ℕ} {w w' : List ℕ} → FillW P (6 * n) c slot i j p q top w w' → Goes i j p q top w w'
  fills (gapW {i = i} {j = j} {p = p} {top = top} {w = w} {w' = w'} e z) = let q : suc i ≡ j = omega arith in subst (λ (x : ℕ). Goes i x p p top w w') q (goes_gap i p top w w' z)
  fills (nodeW {i = i} {j = j} {k = k} {p = p} {q = q} {r = r} {top = top} {w = w} {w1 = w1} {w2 = w2} {w3 = w3} l a t f g z) =
      goes_node i k j p q r top w w1 w2 w3 (turns P (c i) (c j) (c k) t) (fill_up P f) (fill_up P g) (fill_some P f) (fill_some P g) (fills f) (fills g) z
