-- The corridor of document 01, step 4: the triangles that the segment from a to b crosses, entered one after the other, with the corners on
-- its left and on its right. Each entry drops the crossed pair of partners and parks one more edge of the cavity. Definitions only.
use Rattle.std.specs.Prelude.{true, ◌≡◌, ℕ, suc, ◌+◌, ◌*◌, ◌≤◌, ◌<◌}
use Rattle.cavities.specs.Changes.{Dropped, Parked}
use Rattle.cavities.specs.Fillings.{Slots, Gaps, Tri}
use Rattle.cavities.specs.Nets.{Net, Live, Dead, World, Inv}

-- e, f, g are the half-edges of triangle t, in turn
pub data Three : ℕ → ℕ → ℕ → ℕ → Type 0 where
  t0 : {t : ℕ} → Three t (3 * t) (3 * t + 1) (3 * t + 2)
  t1 : {t : ℕ} → Three t (3 * t + 1) (3 * t + 2) (3 * t)
  t2 : {t : ℕ} → Three t (3 * t + 2) (3 * t) (3 * t + 1)

-- h is a half-edge of triangle t
pub record In (t h : ℕ) : Type 0 where
  pub k : ℕ
  pub three : k < 3
  pub is : h ≡ 3 * t + k

-- e, f, g in any order
pub record Parts (t e f g : ℕ) : Type 0 where
  pub in_e : In t e
  pub in_f : In t f
  pub in_g : In t g
  pub ef : ¬ (e ≡ f)
  pub fg : ¬ (f ≡ g)
  pub eg : ¬ (e ≡ g)
  pub all : (h : ℕ) → In t h → ¬ (h ≡ e) → ¬ (h ≡ f) → h ≡ g

-- the figure of a walk: which points lie on the left and on the right, the crossed slots, the places to park, and the corners and the
-- parked gaps on the left and on the right
pub record Figure : Type 1 where
  pub Left : ℕ → Type 0
  pub Right : ℕ → Type 0
  pub apart : (p : ℕ) → Left p → Right p → ⊥
  pub slot : ℕ → ℕ
  pub vt : ℕ → ℕ
  pub cl : ℕ → ℕ
  pub cr : ℕ → ℕ
  pub gl : ℕ → ℕ
  pub gr : ℕ → ℕ

-- Walk F t n l r x σ σ': n triangles are crossed, with l corners on the left and r on the right, and x is the edge to leave by
pub data Walk (F : Figure) (t : ℕ) : ℕ → ℕ → ℕ → ℕ → Net → Net → Type 0 where
  start : {f x g : ℕ} {σ σ1 σ2 : Net} → Three (F.slot 0) f x g → F.slot 0 < t → σ.org f ≡ F.cl 0 → σ.org f ≡ F.cr 0 → σ.org x ≡ F.cr 1 →
      σ.org g ≡ F.cl 1 → F.Left (F.cl 1) → F.Right (F.cr 1) → F.gl 0 ≡ F.vt 0 → F.gr 0 ≡ F.vt 1 → Parked σ σ1 g (F.vt 0) →
      Parked σ1 σ2 f (F.vt 1) → Walk F t 1 1 1 x σ σ2
  left : {n l r x f g : ℕ} {σ σ1 σ2 σ3 : Net} → Walk F t n l r x σ σ1 → σ1.has x ≡ true → σ1.mark x ≡ 0 → Three (F.slot n) (σ1.mate x) f g →
      F.slot n < t → σ1.org g ≡ F.cl (suc l) → F.Left (F.cl (suc l)) → F.gl l ≡ F.vt (suc n) → Dropped σ1 σ2 x (σ1.mate x) →
      Parked σ2 σ3 g (F.vt (suc n)) → Walk F t (suc n) (suc l) r f σ σ3
  right : {n l r x f g : ℕ} {σ σ1 σ2 σ3 : Net} → Walk F t n l r x σ σ1 → σ1.has x ≡ true → σ1.mark x ≡ 0 → Three (F.slot n) (σ1.mate x) f g →
      F.slot n < t → σ1.org g ≡ F.cr (suc r) → F.Right (F.cr (suc r)) → F.gr r ≡ F.vt (suc n) → Dropped σ1 σ2 x (σ1.mate x) →
      Parked σ2 σ3 f (F.vt (suc n)) → Walk F t (suc n) l (suc r) g σ σ3

-- b is met: both edges beside it are parked
pub record Arrive (F : Figure) (t n l r x f g : ℕ) (σ1 σ2 σ3 σ4 : Net) : Type 0 where
  pub has : σ1.has x ≡ true
  pub plain : σ1.mark x ≡ 0
  pub three : Three (F.slot n) (σ1.mate x) f g
  pub small : F.slot n < t
  pub b_left : σ1.org g ≡ F.cl (suc l)
  pub b_right : σ1.org g ≡ F.cr (suc r)
  pub at_left : F.gl l ≡ F.vt (suc n)
  pub at_right : F.gr r ≡ F.vt (suc (suc n))
  pub drop : Dropped σ1 σ2 x (σ1.mate x)
  pub park : Parked σ2 σ3 g (F.vt (suc n))
  pub park' : Parked σ3 σ4 f (F.vt (suc (suc n)))

-- what the walk starts from: t triangles, all live, and the dead numbers vt x, x below cap, to park at
pub record Tiled (W : World) (Ccw : ℕ → ℕ → ℕ → Type 0) (vt : ℕ → ℕ) (t cap : ℕ) (σ : Net) : Type 0 where
  pub inv : Inv W σ
  pub live : (h : ℕ) → h < 3 * t → Live σ h
  pub tri : (s : ℕ) → s < t → Tri Ccw σ s
  pub dead : (x : ℕ) → x < cap → Dead σ (vt x)
  pub low : (x : ℕ) → x < cap → vt x < W.bound
  pub apart : (x y : ℕ) → x < cap → y < cap → vt x ≡ vt y → x ≡ y

-- n triangles crossed, n + 1 gaps parked, x the edge to leave by
pub record Core (W : World) (slot vt : ℕ → ℕ) (t n x : ℕ) (σ σ' : Net) : Type 0 where
  pub inv : Inv W σ'
  pub exit_live : Live σ' x
  pub exit_in : Slots slot 0 n x
  pub slot_dead : (h : ℕ) → Slots slot 0 n h → ¬ (h ≡ x) → Dead σ' h
  pub slot_real : (y : ℕ) → y < n → slot y < t
  pub slot_apart : (y z : ℕ) → y < n → z < n → slot y ≡ slot z → y ≡ z
  pub gap_live : (h : ℕ) → Gaps vt 0 (suc n) h → Live σ' h
  pub live : (h : ℕ) → ¬ Slots slot 0 n h → ¬ Gaps vt 0 (suc n) h → σ'.live h ≡ σ.live h
  pub org : (h : ℕ) → ¬ Gaps vt 0 (suc n) h → σ'.org h ≡ σ.org h
  pub dst : (h : ℕ) → ¬ Gaps vt 0 (suc n) h → σ'.dst h ≡ σ.dst h

-- n triangles crossed, n + 2 gaps parked, and no edge to leave by
pub record Core' (W : World) (slot vt : ℕ → ℕ) (t n : ℕ) (σ σ' : Net) : Type 0 where
  pub inv : Inv W σ'
  pub slot_dead : (h : ℕ) → Slots slot 0 n h → Dead σ' h
  pub slot_real : (y : ℕ) → y < n → slot y < t
  pub slot_apart : (y z : ℕ) → y < n → z < n → slot y ≡ slot z → y ≡ z
  pub gap_live : (h : ℕ) → Gaps vt 0 (suc (suc n)) h → Live σ' h
  pub live : (h : ℕ) → ¬ Slots slot 0 n h → ¬ Gaps vt 0 (suc (suc n)) h → σ'.live h ≡ σ.live h
  pub org : (h : ℕ) → ¬ Gaps vt 0 (suc (suc n)) h → σ'.org h ≡ σ.org h
  pub dst : (h : ℕ) → ¬ Gaps vt 0 (suc (suc n)) h → σ'.dst h ≡ σ.dst h

-- a gap of one of the two chains
pub data Which (F : Figure) (l r h : ℕ) : Type 0 where
  is_left : (z : ℕ) → z < l → F.gl z ≡ h → Which F l r h
  is_right : (z : ℕ) → z < r → F.gr z ≡ h → Which F l r h

-- the two chains
pub record Chains (F : Figure) (n l r : ℕ) (σ : Net) : Type 0 where
  pub l_in : (z : ℕ) → z < l → Gaps F.vt 0 (suc n) (F.gl z)
  pub l_org : (z : ℕ) → z < l → σ.org (F.gl z) ≡ F.cl (suc z)
  pub l_dst : (z : ℕ) → z < l → σ.dst (F.gl z) ≡ F.cl z
  pub l_apart : (z w : ℕ) → z < l → w < l → F.gl z ≡ F.gl w → z ≡ w
  pub r_in : (z : ℕ) → z < r → Gaps F.vt 0 (suc n) (F.gr z)
  pub r_org : (z : ℕ) → z < r → σ.org (F.gr z) ≡ F.cr z
  pub r_dst : (z : ℕ) → z < r → σ.dst (F.gr z) ≡ F.cr (suc z)
  pub r_apart : (z w : ℕ) → z < r → w < r → F.gr z ≡ F.gr w → z ≡ w
  pub lr : (z w : ℕ) → z < l → w < r → ¬ (F.gl z ≡ F.gr w)
  pub onto : (x : ℕ) → x < suc n → Which F l r (F.vt x)

-- and the edge between their ends
pub record Exit (F : Figure) (l r x : ℕ) (σ : Net) : Type 0 where
  pub org : σ.org x ≡ F.cr r
  pub dst : σ.dst x ≡ F.cl l
  pub is_left : (z : ℕ) → 0 < z → z ≤ l → F.Left (F.cl z)
  pub is_right : (z : ℕ) → 0 < z → z ≤ r → F.Right (F.cr z)
  pub some_left : 0 < l
  pub some_right : 0 < r

-- what the walk keeps
pub record Strip (W : World) (F : Figure) (t n l r x : ℕ) (σ σ' : Net) : Type 0 where
  pub core : Core W F.slot F.vt t n x σ σ'
  pub chains : Chains F n l r σ'
  pub exit : Exit F l r x σ'

-- b is met: the cavity is open
pub record Open (W : World) (F : Figure) (t n l r : ℕ) (σ σ' : Net) : Type 0 where
  pub core : Core' W F.slot F.vt t (suc n) σ σ'
  pub chains : Chains F (suc (suc n)) (suc l) (suc r) σ'
