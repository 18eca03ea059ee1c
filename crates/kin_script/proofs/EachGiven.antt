-- What holds of whatever an option gives.
use Rattle.std.proofs.Common.{◌≡◌, Bool, true, false, cond, List, Option, Some, None, refl, subst}
use Rattle.std.specs.Prelude.{option_map}
use Rattle.std.proofs.lemmas.Option.{same_Some}
use Rattle.kin_script.specs.Lines.{Word, is_nil}
use Rattle.kin_script.specs.Numbers.{◌>>=◌}
use Rattle.kin_script.specs.Words.{last}

-- what is given has the property
abbrev pub Each : {A : Type 0} → (A → Type 0) → Option A → Type 0
Each {A} P o = (x : A) → o ≡ Some x → P x

module _ {A : Type 0} (P : A → Type 0) where
  pub each_none : Each P None
  each_none x e = absurd cc

  pub each_one : (x : A) → P x → Each P (Some x)
  each_one x h y e = subst P (same_Some x y e) h

  pub each_way : (b : Bool) (o p : Option A) → Each P o → Each P p → Each P (cond b o p)
  each_way true o p f g = f
  each_way false o p f g = g

  pub each_unless : (b : Bool) (o : Option A) → (b ≡ false → Each P o) → Each P (cond b None o)
  each_unless true o f = each_none
  each_unless false o f = f refl

  pub each_last : (x : A) (ws : List Word) → P x → Each P (last x ws)
  each_last x ws h = each_way (is_nil ws) (Some x) None (each_one x h) each_none

  pub each_map : {B : Type 0} (f : B → A) (o : Option B) → Each (λ x. P (f x)) o → Each P (option_map f o)
  each_map f None h = each_none
  each_map f (Some x) h = each_one (f x) (h x refl)

  pub each_then : {B : Type 0} (Q : B → Type 0) (o : Option B) (f : B → Option A) → Each Q o → ((x : B) → Q x → Each P (f x)) → Each P (o >>= f)
  each_then Q None f h k = each_none
  each_then Q (Some x) f h k = k x (h x refl)
