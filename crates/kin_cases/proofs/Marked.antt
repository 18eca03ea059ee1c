-- An envelope tree whose points enter and leave.
use Rattle.std.proofs.Common.{◌≡◌, ◌≢◌, ◌⊎◌, inl, inr, refl, sym, ap, ◌∙◌, subst, arith, List, [], ◌∷◌, ◌++◌, ℕ, ◌^◌, ◌<◌, ◌≤◌, length, Bool, true, false, not, ◌&&◌, ◌||◌, nat_eq, set}
use Rattle.std.specs.Prelude.{Contains, Option, Some, None, is_some}
use Rattle.std.proofs.lemmas.Bool.{cases_eq}
use Rattle.std.proofs.lemmas.Bool.Decides.{nat_tests}
use Rattle.std.proofs.lemmas.List.{get_or-set_same, get_or-set_other, length-set}
use Rattle.kin_motion.specs.declared.fact.Placed.{Placed}
use Rattle.kin_motion.specs.Course.{Course, live_of, motion_of, is_live}
use Rattle.kin_motion.specs.Numbers.{is_in, IsIn}
use Rattle.kin_motion.proofs.LiveLaws.{live-members}
use Rattle.kin_motion.proofs.Members.{in_head, is_in-push, in_from_contains, contains_from_in}
use Rattle.kin_list.proofs.LeaveLaws.{in_push_last}
use Rattle.kin_overlay.specs.Overlays.{names_any}
use Rattle.kin_env.specs.MarkLaws.{same_named, in_leaving}
use Rattle.kin_env.specs.Trees.{Envelope, chain_of_slot, is_leaving, leaving_of, names_leaving, IsEnvelopeAtRest}
use Rattle.kin_env.specs.Walks.{slot_in, own_chain}
use Rattle.kin_cases.specs.Envelopes.{IsFollowed}

-- ---- a tree at rest
held_stays : (i : ℕ) (held : Bool) → false ≡ is_in i (own_chain i held) && not held
held_stays i true = sym (ap (λ b. b && false) (in_head i []))
held_stays i false = refl

held_before : (i : ℕ) (held : Bool) → false ≡ held && not (is_in i (own_chain i held))
held_before i true = sym (ap not (in_head i []))
held_before i false = refl

rest_left : (t : Envelope) → IsEnvelopeAtRest t → (i : ℕ) → i < 2 ^ t.size → false ≡ is_leaving t i
rest_left t rest i low = subst (λ (l : List ℕ). false ≡ is_in i l && not (slot_in t.slots i)) (sym (rest.unmarked i low)) (held_stays i (slot_in t.slots i))

rest_entered : (t : Envelope) → IsEnvelopeAtRest t → (i : ℕ) → i < 2 ^ t.size → false ≡ slot_in t.slots i && not (is_in i (chain_of_slot t i))
rest_entered t rest i low = subst (λ (l : List ℕ). false ≡ slot_in t.slots i && not (is_in i l)) (sym (rest.unmarked i low)) (held_before i (slot_in t.slots i))

pub followed_at_rest : (size : ℕ) (ms : List (Option Course)) (t : Envelope) (gone fresh : List ℕ) → size ≤ 12 → length ms ≡ 2 ^ size → t.size ≡ size → IsEnvelopeAtRest t
    → ((i : ℕ) → is_in i (live_of ms) ≡ slot_in t.slots i) → gone ≡ [] → fresh ≡ [] → IsFollowed size ms t gone fresh
followed_at_rest size ms t gone fresh small motions_room sized rest members none_gone none_fresh = record {
  small = small;
  motions_room = motions_room;
  sized = sized;
  room = rest.room ∙ ap (λ n. 2 ^ n) sized;
  whole = rest.whole;
  members = members;
  gone_low = λ i h. absurd (let e : false ≡ true = subst (λ (l : List ℕ). IsIn i l) none_gone h in cc);
  left = λ i low. ap (λ (l : List ℕ). is_in i l) none_gone ∙ rest_left t rest i (subst (λ n. i < 2 ^ n) (sym sized) low);
  entered = λ i low. ap (λ (l : List ℕ). is_in i l) none_fresh ∙ rest_entered t rest i (subst (λ n. i < 2 ^ n) (sym sized) low);
}

-- after a settle
pub followed_settled : (size : ℕ) (ms : List (Option Course)) (t t' : Envelope) (gone fresh gone' fresh' : List ℕ) → IsFollowed size ms t gone fresh → t' ≡ record t { chains = t'.chains; facts = t'.facts } → IsEnvelopeAtRest t' → gone' ≡ [] → fresh' ≡ [] → IsFollowed size ms t' gone' fresh'
followed_settled size ms t t' gone fresh gone' fresh' f same rest none_gone none_fresh =
    followed_at_rest size ms t' gone' fresh' f.small f.motions_room (ap (λ (x : Envelope). x.size) same ∙ f.sized) rest (λ i. f.members i ∙ ap (λ (x : Envelope). slot_in x.slots i) (sym same)) none_gone none_fresh

-- ---- what is spared
pub spares_gone : (size : ℕ) (ms : List (Option Course)) (t : Envelope) (gone fresh : List ℕ) → IsFollowed size ms t gone fresh → (p : Placed) → names_any p.fact.form gone ≡ names_leaving t p
spares_gone size ms t gone fresh f p = same_named p.fact.form gone (leaving_of t) (λ i. (to i, from i))
  where
    to : (i : ℕ) → Contains gone i → Contains (leaving_of t) i
    to i c = let h = in_from_contains gone i c in let low = f.gone_low i h in (in_leaving t i).1 (subst (λ n. i < 2 ^ n) (sym f.sized) low, sym (f.left i low) ∙ h)

    from : (i : ℕ) → Contains (leaving_of t) i → Contains gone i
    from i c = let k = (in_leaving t i).0 c in contains_from_in gone i (f.left i (subst (λ n. i < 2 ^ n) f.sized k.0) ∙ k.1)

-- ---- one number is marked
all_false : (a : Bool) → a && false ≡ false
all_false true = refl
all_false false = refl

first_of : (a : Bool) → a && true ≡ a
first_of true = refl
first_of false = refl

not_false : (a : Bool) → false ≡ not a → a ≡ true
not_false true e = refl
not_false false e = absurd cc

pushed_other : (i n : ℕ) (xs : List ℕ) → i ≢ n → is_in i (xs ++ n ∷ []) ≡ is_in i xs
pushed_other i n xs m = is_in-push i n xs ∙ ap (λ b. b || is_in i xs) (let e : nat_eq i n ≡ false = grind (arith, nat_tests, m) in e)

module _ (size : ℕ) (ms : List (Option Course)) (t : Envelope) (gone fresh : List ℕ) (f : IsFollowed size ms t gone fresh) (n : ℕ) (low : n < 2 ^ size) where
  slot_room : n < length t.slots
  slot_room = subst (λ k. n < k) (sym f.room) low

  motion_room : n < length ms
  motion_room = subst (λ k. n < k) (sym f.motions_room) low

  here : (held : Bool) → slot_in (set t.slots n held) n ≡ held
  here held = get_or-set_same t.slots n held false slot_room

  elsewhere : (held : Bool) (i : ℕ) → i ≢ n → slot_in (set t.slots n held) i ≡ slot_in t.slots i
  elsewhere held i m = get_or-set_other t.slots n i held false m

  -- the members are the live numbers again
  members_again : (held : Bool) (c : Option Course) → is_some c ≡ held → (i : ℕ) → is_in i (live_of (set ms n c)) ≡ slot_in (set t.slots n held) i
  members_again held c same i = at (cases_eq i n)
    where
      at : (i ≡ n) ⊎ (i ≢ n) → is_in i (live_of (set ms n c)) ≡ slot_in (set t.slots n held) i
      at (inl e) =
          live-members (set ms n c) i ∙ ap (λ j. is_some (motion_of (set ms n c) j)) e ∙ ap is_some (get_or-set_same ms n c None motion_room) ∙ same
          ∙ sym (ap (slot_in (set t.slots n held)) e ∙ here held)
      at (inr m) = live-members (set ms n c) i ∙ ap is_some (get_or-set_other ms n i c None m) ∙ sym (live-members ms i) ∙ f.members i ∙ sym (elsewhere held i m)

  pub slot_free : is_live ms n ≡ false → slot_in t.slots n ≡ false
  slot_free none = sym (f.members n) ∙ live-members ms n ∙ none

  pub slot_taken : is_in n (live_of ms) ≡ true → slot_in t.slots n ≡ true
  slot_taken there = sym (f.members n) ∙ there

  -- a number enters
  pub followed_entering : (ms' : List (Option Course)) (t' : Envelope) (fresh' : List ℕ) (c : Course) → is_live ms n ≡ false → is_in n gone ≡ false → ms' ≡ set ms n (Some c) → t' ≡ record t { slots = set t.slots n true } → fresh' ≡ fresh ++ n ∷ []
      → IsFollowed size ms' t' gone fresh'
  followed_entering ms' t' fresh' c free stays moved marked grown =
      subst (λ (l : List (Option Course)). IsFollowed size l t' gone fresh') (sym moved) (subst (λ (x : Envelope). IsFollowed size (set ms n (Some c)) x gone fresh') (sym marked) (subst (λ (l : List ℕ). IsFollowed size (set ms n (Some c)) (record t { slots = set t.slots n true }) gone l) (sym grown) so))
    where
      not_there : is_in n (chain_of_slot t n) ≡ false
      not_there = sym (first_of (is_in n (chain_of_slot t n))) ∙ ap (λ b. is_in n (chain_of_slot t n) && not b) (sym (slot_free free)) ∙ sym (f.left n low) ∙ stays

      left : (i : ℕ) → (i ≡ n) ⊎ (i ≢ n) → i < 2 ^ size → is_in i gone ≡ is_in i (chain_of_slot t i) && not (slot_in (set t.slots n true) i)
      left i (inl e) inside = subst (λ j. is_in j gone ≡ is_in j (chain_of_slot t j) && not (slot_in (set t.slots n true) j)) (sym e) (stays ∙ sym (ap (λ b. is_in n (chain_of_slot t n) && not b) (here true) ∙ all_false (is_in n (chain_of_slot t n))))
      left i (inr m) inside = f.left i inside ∙ ap (λ b. is_in i (chain_of_slot t i) && not b) (sym (elsewhere true i m))

      entered : (i : ℕ) → (i ≡ n) ⊎ (i ≢ n) → i < 2 ^ size → is_in i (fresh ++ n ∷ []) ≡ slot_in (set t.slots n true) i && not (is_in i (chain_of_slot t i))
      entered i (inl e) inside = subst (λ j. is_in j (fresh ++ n ∷ []) ≡ slot_in (set t.slots n true) j && not (is_in j (chain_of_slot t j))) (sym e) (in_push_last n fresh ∙ sym (ap (λ b. b && not (is_in n (chain_of_slot t n))) (here true) ∙ ap not not_there))
      entered i (inr m) inside = pushed_other i n fresh m ∙ f.entered i inside ∙ ap (λ b. b && not (is_in i (chain_of_slot t i))) (sym (elsewhere true i m))

      so : IsFollowed size (set ms n (Some c)) (record t { slots = set t.slots n true }) gone (fresh ++ n ∷ [])
      so = record {
        small = f.small;
        motions_room = length-set ms n (Some c) ∙ f.motions_room;
        sized = f.sized;
        room = length-set t.slots n true ∙ f.room;
        whole = f.whole;
        members = members_again true (Some c) refl;
        gone_low = f.gone_low;
        left = λ i inside. left i (cases_eq i n) inside;
        entered = λ i inside. entered i (cases_eq i n) inside;
      }

  -- a number leaves
  pub followed_leaving : (ms' : List (Option Course)) (t' : Envelope) (gone' : List ℕ) → is_in n (live_of ms) ≡ true → is_in n fresh ≡ false → ms' ≡ set ms n None → t' ≡ record t { slots = set t.slots n false } → gone' ≡ gone ++ n ∷ []
      → IsFollowed size ms' t' gone' fresh
  followed_leaving ms' t' gone' there stood moved marked grown =
      subst (λ (l : List (Option Course)). IsFollowed size l t' gone' fresh) (sym moved) (subst (λ (x : Envelope). IsFollowed size (set ms n None) x gone' fresh) (sym marked) (subst (λ (l : List ℕ). IsFollowed size (set ms n None) (record t { slots = set t.slots n false }) l fresh) (sym grown) so))
    where
      in_chain : is_in n (chain_of_slot t n) ≡ true
      in_chain = not_false (is_in n (chain_of_slot t n)) (sym stood ∙ f.entered n low ∙ ap (λ b. b && not (is_in n (chain_of_slot t n))) (slot_taken there))

      left : (i : ℕ) → (i ≡ n) ⊎ (i ≢ n) → i < 2 ^ size → is_in i (gone ++ n ∷ []) ≡ is_in i (chain_of_slot t i) && not (slot_in (set t.slots n false) i)
      left i (inl e) inside = subst (λ j. is_in j (gone ++ n ∷ []) ≡ is_in j (chain_of_slot t j) && not (slot_in (set t.slots n false) j)) (sym e) (in_push_last n gone ∙ sym (ap (λ b. b && not (slot_in (set t.slots n false) n)) in_chain ∙ ap not (here false)))
      left i (inr m) inside = pushed_other i n gone m ∙ f.left i inside ∙ ap (λ b. is_in i (chain_of_slot t i) && not b) (sym (elsewhere false i m))

      entered : (i : ℕ) → (i ≡ n) ⊎ (i ≢ n) → i < 2 ^ size → is_in i fresh ≡ slot_in (set t.slots n false) i && not (is_in i (chain_of_slot t i))
      entered i (inl e) inside = subst (λ j. is_in j fresh ≡ slot_in (set t.slots n false) j && not (is_in j (chain_of_slot t j))) (sym e) (stood ∙ sym (ap (λ b. b && not (is_in n (chain_of_slot t n))) (here false)))
      entered i (inr m) inside = f.entered i inside ∙ ap (λ b. b && not (is_in i (chain_of_slot t i))) (sym (elsewhere false i m))

      gone_low : (i : ℕ) → (i ≡ n) ⊎ (i ≢ n) → IsIn i (gone ++ n ∷ []) → i < 2 ^ size
      gone_low i (inl e) h = subst (λ j. j < 2 ^ size) (sym e) low
      gone_low i (inr m) h = f.gone_low i (sym (pushed_other i n gone m) ∙ h)

      so : IsFollowed size (set ms n None) (record t { slots = set t.slots n false }) (gone ++ n ∷ []) fresh
      so = record {
        small = f.small;
        motions_room = length-set ms n None ∙ f.motions_room;
        sized = f.sized;
        room = length-set t.slots n false ∙ f.room;
        whole = f.whole;
        members = members_again false None refl;
        gone_low = λ i h. gone_low i (cases_eq i n) h;
        left = λ i inside. left i (cases_eq i n) inside;
        entered = λ i inside. entered i (cases_eq i n) inside;
      }
