-- Motions in two rows are found and changed by number.
use Rattle.std.proofs.Common.{◌≡◌, refl, sym, ap, ap₂, arith, ◌≤◌, List, [], ◌∷◌, ℕ, zero, suc, ◌<◌, Bool, true, false, cond, length, set, get_or}
use Rattle.std.specs.Prelude.{Option, Some, None, is_some, slice_get, slice_set, replicate}
use Rattle.std.proofs.lemmas.Option.{slice_get_read}
use Rattle.kin_motion.specs.Course.{Course, motion_of}
use Rattle.kin_motion.specs.Slots.{slots_of}

same_length : (n m : ℕ) → suc n ≡ suc m → n ≡ m
same_length n m e = omega arith

pub slots-length : (bs : List Bool) (cs : List Course) → length cs ≡ length bs → length (slots_of bs cs) ≡ length bs
slots-length [] cs e = refl
slots-length (b ∷ bs) [] e = absurd cc
slots-length (b ∷ bs) (c ∷ cs) e = ap suc (slots-length bs cs (same_length _ _ e))

-- what stands at a number
pub slots-get : (bs : List Bool) (cs : List Course) (i : ℕ) (b : Bool) (c : Course) → slice_get bs i ≡ Some b → slice_get cs i ≡ Some c → motion_of (slots_of bs cs) i ≡ cond b (Some c) None
slots-get [] cs i b c e f = absurd cc
slots-get (x ∷ bs) [] i b c e f = absurd cc
slots-get (x ∷ bs) (y ∷ cs) zero b c e f = let g : x ≡ b = cc in let h : y ≡ c = cc in ap₂ (λ (t : Bool) (d : Course). cond t (Some d) None) g h
slots-get (x ∷ bs) (y ∷ cs) (suc i) b c e f = slots-get bs cs i b c e f

pub slots-past : (bs : List Bool) (cs : List Course) (i : ℕ) → length bs ≤ i → motion_of (slots_of bs cs) i ≡ None
slots-past [] cs i l = refl
slots-past (b ∷ bs) [] i l = refl
slots-past (b ∷ bs) (c ∷ cs) zero l = absurd (omega arith)
slots-past (b ∷ bs) (c ∷ cs) (suc i) l = slots-past bs cs i (omega arith)

-- a number that becomes live, or moves otherwise
pub slots-set : (bs : List Bool) (cs : List Course) (i : ℕ) (c : Course) → slots_of (set bs i true) (set cs i c) ≡ slice_set (slots_of bs cs) i (Some c)
slots-set [] cs i c = refl
slots-set (b ∷ bs) [] zero c = refl
slots-set (b ∷ bs) [] (suc i) c = refl
slots-set (b ∷ bs) (d ∷ cs) zero c = refl
slots-set (b ∷ bs) (d ∷ cs) (suc i) c = ap (λ (s : List (Option Course)). cond b (Some d) None ∷ s) (slots-set bs cs i c)

-- a number that isn't live any more
pub slots-clear : (bs : List Bool) (cs : List Course) (i : ℕ) → slots_of (set bs i false) cs ≡ slice_set (slots_of bs cs) i None
slots-clear [] cs i = refl
slots-clear (b ∷ bs) [] zero = refl
slots-clear (b ∷ bs) [] (suc i) = refl
slots-clear (b ∷ bs) (d ∷ cs) zero = refl
slots-clear (b ∷ bs) (d ∷ cs) (suc i) = ap (λ (s : List (Option Course)). cond b (Some d) None ∷ s) (slots-clear bs cs i)

-- no number is live
pub slots-none : (n : ℕ) (cs : List Course) → length cs ≡ n → slots_of (replicate n false) cs ≡ replicate n None
slots-none zero cs e = refl
slots-none (suc n) [] e = absurd cc
slots-none (suc n) (c ∷ cs) e = ap (λ (s : List (Option Course)). None ∷ s) (slots-none n cs (same_length _ _ e))

pub none_live : (n i : ℕ) → motion_of (replicate n None) i ≡ None
none_live zero i = refl
none_live (suc n) zero = refl
none_live (suc n) (suc i) = none_live n i

-- a number that is read as live, or as not live
pub slots-read : (bs : List Bool) (cs : List Course) (i : ℕ) (b : Bool) (c : Course) → i < length bs → length cs ≡ length bs → b ≡ get_or bs i b → c ≡ get_or cs i c → motion_of (slots_of bs cs) i ≡ cond b (Some c) None
slots-read bs cs i b c l e f g = slots-get bs cs i b c (slice_get_read bs (length bs) i b refl l f) (slice_get_read cs (length cs) i c refl (omega arith) g)

pub slots-absent : (bs : List Bool) (cs : List Course) (i : ℕ) → slice_get bs i ≡ Some false → motion_of (slots_of bs cs) i ≡ None
slots-absent [] cs i e = absurd cc
slots-absent (b ∷ bs) [] i e = refl
slots-absent (b ∷ bs) (c ∷ cs) zero e = let g : b ≡ false = cc in ap (λ (t : Bool). cond t (Some c) None) g
slots-absent (b ∷ bs) (c ∷ cs) (suc i) e = slots-absent bs cs i e

-- a live number has a place in both rows, and its motion stands there
pub slots-within : (bs : List Bool) (cs : List Course) (i : ℕ) → is_some (motion_of (slots_of bs cs) i) ≡ true → i < length cs
slots-within [] cs i e = absurd cc
slots-within (b ∷ bs) [] i e = absurd cc
slots-within (b ∷ bs) (c ∷ cs) zero e = omega arith
slots-within (b ∷ bs) (c ∷ cs) (suc i) e = let l = slots-within bs cs i e in omega arith

pub slots-live : (bs : List Bool) (cs : List Course) (i : ℕ) (c : Course) → is_some (motion_of (slots_of bs cs) i) ≡ true → c ≡ get_or cs i c → motion_of (slots_of bs cs) i ≡ Some c
slots-live [] cs i c e f = absurd cc
slots-live (b ∷ bs) [] i c e f = absurd cc
slots-live (true ∷ bs) (d ∷ cs) zero c e f = ap (λ (k : Course). Some k) (sym f)
slots-live (false ∷ bs) (d ∷ cs) zero c e f = absurd cc
slots-live (b ∷ bs) (d ∷ cs) (suc i) c e f = slots-live bs cs i c e f
