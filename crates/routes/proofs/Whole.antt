-- In one: a walk that meets b is a recovery, by the scan. Assumes nothing but what the tiling says (Sees).
use mathlib.Core.Path.{◌≡◌, sym, ap, ◌∙◌}
use Prim.Native.Nat.{ℕ, suc, ◌+◌, ◌<◌}
use native.Mathlib.Omega.{arith}
use lib.IntN.{ℤ}
use Rattle.plane.specs.Points.{Pt}
use Rattle.cavities.proofs.Recover.{opened, c_left', c_right}
use Rattle.cavities.proofs.Walk.{walk_strip, arrive}
use Rattle.cavities.specs.Closings.{Opened}
use Rattle.cavities.specs.Corridors.{Tiled, Figure, Walk, Arrive, Open}
use Rattle.cavities.specs.Nets.{Net, World}
use Rattle.cavities.specs.Recovery.{chain, gaps, Tops, Room}
use Rattle.cavities.specs.Tilings.{CcwP}
use Rattle.routes.specs.Scans.{NeverSticks}
use Rattle.routes.specs.Walks.{Sees, ByScan}
use Rattle.routes.proofs.Follow.{follow}
use Rattle.routes.proofs.Route.{route_closes}

module _ (W : World) (pts : ℕ → Pt ℤ) (Edge : ℕ → ℕ → Type 0) (a b : Pt ℤ) (F : Figure) (t cap n l r x f g PL PR : ℕ) (σ σ1 σ2 σ3 σ4 σ5 : Net) where
  pub recovered : (til : Tiled W (CcwP pts) F.vt t cap σ) → Sees pts Edge a b F t σ → suc (suc n) < cap → Room W F.vt n PL PR σ →
      Walk F t n l r x σ σ1 → Arrive F t n l r x f g σ1 σ2 σ3 σ4 → Tops σ4 σ5 PL PR (F.cl 0) (F.cl (suc l)) → F.cl 0 ≡ F.cr 0 →
      F.cl (suc l) ≡ F.cr (suc r) → pts (F.cl (suc l)) ≡ b → ByScan pts F t n l r PL PR σ σ5
  recovered til sees fits room walk arr tops a_same b_same to = record {
    never = never;
    recovery = record {
      x = x;
      f = f;
      g = g;
      q = never.left.q;
      σ1 = σ1;
      σ2 = σ2;
      σ3 = σ3;
      σ4 = σ4;
      σ5 = σ5;
      σ6 = never.closes.σ1;
      σ7 = never.closes.σ2;
      σ8 = never.closes.σ3;
      walk = walk;
      arrive = arr;
      tops = tops;
      closing = never.closes.closing;
    };
  }
    where
      open_net : Open W F t n l r σ σ4
      open_net = arrive W (CcwP pts) F t cap σ til n l r x f g σ1 σ2 σ3 σ4 (walk_strip W (CcwP pts) F t cap til (omega arith) walk) fits arr

      cavity : Opened W (chain F l r) (gaps F l r) F.slot (suc l) (suc l + suc r) n PL PR σ5
      cavity = opened W (CcwP pts) F t cap σ til n l r fits σ4 open_net PL PR σ5 a_same b_same tops room.PL_dead room.PR_dead room.PL_vt
          room.PR_vt room.PL_low room.PR_low room.two

      never : NeverSticks pts (chain F l r) (gaps F l r) F.slot (suc l) (suc l + suc r) n PL PR σ5
      never =
          route_closes pts Edge F.cl F.cr a b sees.tidy n l r (follow W pts Edge a b F t cap til sees (omega arith) walk) sees.from to
          (ap pts (sym a_same) ∙ sees.from) (ap pts (sym b_same) ∙ to)
          W (chain F l r) (gaps F l r) F.slot PL PR σ5 (c_left' W (CcwP pts) F t cap σ til n l r fits σ4 open_net PL PR σ5 a_same b_same tops
          room.PL_dead room.PR_dead room.PL_vt room.PR_vt room.PL_low room.PR_low room.two)
          (λ k h m. c_right W (CcwP pts) F t cap σ til n l r fits σ4 open_net PL PR σ5 a_same b_same tops room.PL_dead room.PR_dead
          room.PL_vt room.PR_vt room.PL_low room.PR_low room.two k (λ e. omega arith)) cavity
