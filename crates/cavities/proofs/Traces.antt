-- THE TRACES OF RECOVERY: a recovery that does not stick marks no new edge, changes nothing of a triangle that it does not cross but a
-- partner that it crosses, and leaves the demanded edge at edge 0 of the last crossed slot. Assumes nothing.
use mathlib.Core.Path.{◌≡◌, refl, sym, subst}
use Prim.Native.Nat.{ℕ, suc, ◌+◌, ◌*◌, ◌<◌}
use native.Mathlib.Decide.{dec_lt}
use native.Mathlib.Omega.{arith}
use lib.IntN.{ℤ}
use Rattle.plane.specs.Base.{Side}
use Rattle.plane.specs.Points.{Pt}
use Rattle.cavities.specs.Closings.{Opened}
use Rattle.cavities.specs.Corridors.{Figure, Open, Strip}
use Rattle.cavities.specs.Nets.{Net, Live, Dead, World}
use Rattle.cavities.specs.Recovered.{Begun}
use Rattle.cavities.specs.Recovery.{chain, gaps, Recovery}
use Rattle.cavities.specs.Tilings.{CcwP, world}
use Rattle.cavities.specs.Traces.{Only, Gone, crossed, beyond, Stays, Traced}
use Rattle.cavities.proofs.Fill.{le_self}
use Rattle.cavities.proofs.Net.{clash}
use Rattle.cavities.proofs.Only.{walk_only, arrive_only, wrote_only, closing_only}
use Rattle.cavities.proofs.Recover.{in_vt, opened, opened_net, recovered_edge}
use Rattle.cavities.proofs.Stays.{trans, wrote, arrive_stays, closing_stays}
use Rattle.cavities.proofs.Walk.{walk_strip}

module _ (pts : ℕ → Pt ℤ) (base : Side → Pt ℤ) (N : ℕ) (must : ℕ → ℕ → Type 0) (point : ℕ → Type 0) (F : Figure) (t cap n l r PL PR : ℕ) (σ σ' : Net)
    (b : Begun pts base N must point F t cap n l r PL PR σ) (rec : Recovery (CcwP pts) F t n l r PL PR σ σ') where
  abbrev W : World
  W = world pts base N must point

  abbrev Off : ℕ → Type 0
  Off = Gone F.slot (suc n) t

  less : n < cap
  less = let f = b.fits in omega arith

  strip : Strip W F t n l r rec.x σ rec.σ1
  strip = walk_strip W (CcwP pts) F t cap b.tiled less rec.walk

  open_net : Open W F t n l r σ rec.σ4
  open_net = opened_net pts base N must point F t cap n l r PL PR σ σ' b.tiled b.low b.fits b.from_a b.to_b b.room rec

  cavity : Opened W (chain F l r) (gaps F l r) F.slot (suc l) (suc l + suc r) n PL PR rec.σ5
  cavity =
      opened W (CcwP pts) F t cap σ b.tiled n l r b.fits rec.σ4 open_net PL PR rec.σ5 b.from_a b.to_b rec.tops
      b.room.PL_dead b.room.PR_dead b.room.PL_vt b.room.PR_vt b.room.PL_low b.room.PR_low b.room.two

  -- ---- the marks

  only_after : (May : ℕ → ℕ → Type 0) → Only May σ → Only May σ'
  only_after May a =
      let a1 = walk_only May W (CcwP pts) F t cap σ b.tiled less rec.walk a in
      let a4 = arrive_only May W (CcwP pts) F t cap σ b.tiled n l r rec.x rec.f rec.g rec.σ1 rec.σ2 rec.σ3 rec.σ4 b.fits strip rec.arrive a1 in
      closing_only May W (CcwP pts) (chain F l r) (gaps F l r) F.slot (suc l) (suc l + suc r) rec.q n PL PR rec.σ5 rec.σ6 rec.σ7 rec.σ8 σ' cavity rec.closing
      (wrote_only May rec.tops.wrote a4)

  -- ---- what is not crossed

  -- a free number is beyond the triangles
  free_off : (h : ℕ) → Dead σ h → Off h
  free_off h d = go (dec_lt h (3 * t))
    where
      go : Dec (h < 3 * t) → Off h
      go (yes k) = clash (b.tiled.live h k) d
      go (no k) = beyond (omega arith)

  park_off : (x : ℕ) → x < suc (suc (suc n)) → Off (F.vt x)
  park_off x k = free_off (F.vt x) (b.tiled.dead x (let f = b.fits in omega arith))

  slot_off : (y d : ℕ) → y < suc n → d < 3 → Off (3 * F.slot y + d)
  slot_off y d i j = crossed (record { at = y; k = d; low = omega arith; high = i; three = j; is = refl })

  gap_off : (x : ℕ) → x < suc l + suc r → Off (gaps F l r x)
  gap_off x k =
      let g =
      in_vt W (CcwP pts) F t cap σ b.tiled n l r b.fits rec.σ4 open_net PL PR rec.σ5 b.from_a b.to_b rec.tops
      b.room.PL_dead b.room.PR_dead b.room.PL_vt b.room.PR_vt b.room.PL_low b.room.PR_low b.room.two x k in
      subst Off (sym g.is) (park_off g.at g.high)

  inner : (h : ℕ) → ¬ Off h → Live σ h
  inner h on = go (dec_lt h (3 * t))
    where
      go : Dec (h < 3 * t) → Live σ h
      go (yes k) = b.tiled.live h k
      go (no k) = absurd (on (beyond (omega arith)))

  stays_after : (h : ℕ) → ¬ Off h → Stays Off σ σ' h
  stays_after h on =
      let s4 = arrive_stays Off h on F t n park_off slot_off (inner h on) rec.walk rec.arrive in
      let s5 = wrote Off h on s4.live rec.tops.wrote in
      let s9 =
      closing_stays Off h on (CcwP pts) (chain F l r) (gaps F l r) F.slot (suc l + suc r) n gap_off slot_off (omega arith)
      (free_off PL b.room.PL_dead) (free_off PR b.room.PR_dead) s5.live rec.closing in
      trans Off h on s4 (trans Off h on s5 s9)

  -- ---- the demanded edge

  root : (σ'.org (3 * F.slot n) ≡ F.cl (suc l)) × (σ'.dst (3 * F.slot n) ≡ F.cl 0)
  root =
      recovered_edge W (CcwP pts) F t cap σ b.tiled n l r b.fits rec.σ4 open_net PL PR rec.σ5 b.from_a b.to_b rec.tops
      b.room.PL_dead b.room.PR_dead b.room.PL_vt b.room.PR_vt b.room.PL_low b.room.PR_low b.room.two
      rec.q rec.σ6 rec.σ7 rec.σ8 σ' rec.closing

  pub recovery_traced : (May : ℕ → ℕ → Type 0) → Only May σ → Traced May F.slot t n (F.cl 0) (F.cl (suc l)) σ σ'
  recovery_traced May a = record {
    only = only_after May a;
    outside = stays_after;
    root_org = root.0;
    root_dst = root.1;
    root_low = open_net.core.slot_real n le_self;
  }
