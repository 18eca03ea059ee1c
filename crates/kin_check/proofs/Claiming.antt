-- A claim is held against commands one by one.
use Rattle.std.proofs.Common.{◌≡◌, ◌≢◌, refl, sym, ap, ◌∙◌, subst, inl, inr, Bool, List, [], ◌∷◌, ◌++◌, ℕ, ◌+◌, ◌<◌, length, get_or, drop, Some, None, ◌↔◌}
use Rattle.std.specs.Prelude.{IsTrue}
use Rattle.std.proofs.lemmas.List.{append_cancel_left}
use Rattle.kin_num.specs.Canonical.{IsCanonical}
use Rattle.kin_motion.specs.declared.keep.Keep.{Keep}
use Rattle.kin_script.specs.declared.refusal.Refusal.{Refusal}
use Rattle.kin_script.specs.declared.script.Script.{Script}
use Rattle.kin_script.specs.Deeds.{deed_of}
use Rattle.kin_script.specs.Ranges.{IsWithin}
use Rattle.kin_script.specs.Replay.{IsAllowed, IsRefused}
use Rattle.kin_script.specs.States.{State, start}
use Rattle.kin_script.specs.Text.{Prints, Step, Text, refused_line}
use Rattle.kin_status.proofs.Determined.{one_step}
use Rattle.kin_status.proofs.Existence.{start_sound}
use Rattle.kin_status.proofs.Playing.{Line, allowed_goes_on, at_item, text_refused}
use Rattle.kin_check.specs.Claims.{IsTextFrom}
use Rattle.kin_check.specs.Sound.{IsSound}

-- ---- the first command
module _ (s : State) (c : Line) (cs : List Line) (before : List ℕ) where
  -- it was carried out, and its text was taken away
  pub goes_on : IsCanonical s.moment.at → (first left : List ℕ) (t : State) → Step s (deed_of c.1) first t → before ≡ first ++ left → IsTextFrom s (c ∷ cs) before ↔ IsTextFrom t cs left
  goes_on canonical first left t step e = (
    λ h.
        let x = allowed_goes_on s c cs before h.0 step.allowed h.1 in
        let same = one_step s (deed_of c.1) x.0 first x.2 t canonical x.3 step in
        let rest : x.1 ≡ left = append_cancel_left first x.1 left (ap (λ (w : List ℕ). w ++ x.1) (sym same.0) ∙ sym x.5 ∙ e) in
        (h.0, subst (λ (w : List ℕ). Text t cs w h.0) rest (subst (λ (u : State). Text u cs x.1 h.0) same.1 x.4)),
    λ h. (h.0, inr (first, left, t, step, h.1, e)),
  )

  -- what it prints is not at the front
  pub differs : IsAllowed s (deed_of c.1) → ((text rest : List ℕ) → Prints s (deed_of c.1) text → before ≢ text ++ rest) → ¬ (IsTextFrom s (c ∷ cs) before)
  differs allowed other h = let x = allowed_goes_on s c cs before h.0 allowed h.1 in other x.0 x.1 x.3.prints x.5

  -- it is refused, and nothing follows
  pub refused : (r : Refusal) → IsRefused s (deed_of c.1) r → IsTextFrom s (c ∷ cs) before ↔ (before ≡ refused_line c.0 r)
  refused r is = (λ h. (text_refused s c cs before h.0 r is h.1).0, λ e. (Some (c.0, r), inl (r, is, e, refl)))

-- there is no command
pub done : (s : State) (before : List ℕ) → IsTextFrom s [] before ↔ (before ≡ [])
done s before = (λ h. h.1.0, λ e. (None, (e, refl)))

-- ---- one turn of the loop over the commands: whether all of them have the text is whether those that are left have what is left
module _ (s t : State) (all : List Line) (before left : List ℕ) (i : ℕ) (forth : IsTextFrom t (drop i all) left → IsTextFrom s all before)
    (back : IsTextFrom s all before → IsTextFrom t (drop i all) left)
    (c : Line) (low : i < length all) (read : c ≡ get_or all i c) where
  here : IsTextFrom t (c ∷ drop (i + 1) all) left → IsTextFrom s all before
  here h = forth (subst (λ (cs : List Line). IsTextFrom t cs left) (sym (at_item all i c low read)) h)

  there : IsTextFrom s all before → IsTextFrom t (c ∷ drop (i + 1) all) left
  there h = subst (λ (cs : List Line). IsTextFrom t cs left) (at_item all i c low read) (back h)

  pub further_forth : IsCanonical t.moment.at → (first now : List ℕ) (u : State) → Step t (deed_of c.1) first u → left ≡ first ++ now → IsTextFrom u (drop (i + 1) all) now → IsTextFrom s all before
  further_forth canonical first now u step e h = here ((goes_on t c (drop (i + 1) all) left canonical first now u step e).1 h)

  pub further_back : IsCanonical t.moment.at → (first now : List ℕ) (u : State) → Step t (deed_of c.1) first u → left ≡ first ++ now → IsTextFrom s all before → IsTextFrom u (drop (i + 1) all) now
  further_back canonical first now u step e h = (goes_on t c (drop (i + 1) all) left canonical first now u step e).0 (there h)

  pub ends_here : (r : Refusal) → IsRefused t (deed_of c.1) r → (now : List ℕ) → now ≡ left → (is : Bool) → IsTrue is ↔ (now ≡ refused_line c.0 r) → IsTrue is ↔ IsTextFrom s all before
  ends_here r out now same is h = (
    λ yes. here ((refused t c (drop (i + 1) all) left r out).1 (sym same ∙ h.0 yes)),
    λ text. h.1 (same ∙ (refused t c (drop (i + 1) all) left r out).0 (there text)),
  )

  pub differs_here : IsAllowed t (deed_of c.1) → ((text rest : List ℕ) → Prints t (deed_of c.1) text → left ≢ text ++ rest) → ¬ (IsTextFrom s all before)
  differs_here allowed other h = differs t c (drop (i + 1) all) left allowed other (there h)

-- ---- the state at the start
pub starts_sound : (script : Script) → IsWithin script → (keeps : List Keep) (s : State) → keeps ≡ script.keeps → s ≡ start script.size keeps script.journal → IsSound s
starts_sound script within keeps s same is =
    subst IsSound (sym (is ∙ ap (λ (ks : List Keep). start script.size ks script.journal) same)) (record {
      size_low = within.size_low;
      size_high = within.size_high;
      keepable = within.keepable;
      plannable = (start_sound script within).plannable;
      canonical = (start_sound script within).canonical;
    })
