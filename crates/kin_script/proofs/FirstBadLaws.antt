-- The first line outside is the first that may not stand where it stands.
use Rattle.std.proofs.Common.{◌≡◌, inl, inr, ℕ, false, List, [], ◌∷◌, ◌++◌, Option, Some, None, Result, Ok, Err, refl, sym, ap, ◌∙◌}
use Rattle.std.specs.Prelude.{◌⊎◌, unwrap_or}
use Rattle.kin_script.specs.declared.command.Command.{Command}
use Rattle.kin_script.specs.declared.script.Script.{Script}
use Rattle.kin_script.specs.declared.line.HeaderLine.{HeaderLine}
use Rattle.kin_script.specs.Left.{Numbered}
use Rattle.kin_script.specs.Commands.{command_of, size_of, header_line_of}
use Rattle.kin_script.specs.Grammar.{◌>>◌, at_line, by_header_line, Header, commands_of, with_commands, with_header_line, behind_size, script_of_lines}
use Rattle.kin_script.specs.Written.{IsWritten, IsFirstBad}
use Rattle.kin_script.proofs.WrittenLaws.{whole, first_header, is_written, written_is}

abbrev Commands : Type 0
Commands = List (ℕ × Command)

abbrev none_read : ℕ → Result Commands ℕ
none_read n = Err n

-- the first line that may not stand there: what is before it may, and with it nothing may, however it goes on
pub record Stops (May MayNot : List Numbered → Type 0) (ls : List Numbered) (n : ℕ) : Type 0 where
  pub before : List Numbered
  pub bad : Numbered
  pub behind : List Numbered
  pub parts : ls ≡ before ++ bad ∷ behind
  pub number : bad.0 ≡ n
  pub good : May before
  pub outside : (more : List Numbered) → MayNot (before ++ bad ∷ more)

-- reading stops there
abbrev StopsReading : {A : Type 0} → (List Numbered → Result A ℕ) → List Numbered → ℕ → Type 0
StopsReading {A} read ls n = Stops (λ before. (x : A) × (read before ≡ Ok x)) (λ all. read all ≡ Err n) ls n

stops_here : (May MayNot : List Numbered → Type 0) (n : ℕ) (l : Numbered) (ls : List Numbered) → l.0 ≡ n → May [] → ((more : List Numbered) → MayNot (l ∷ more)) → Stops May MayNot (l ∷ ls) n
stops_here May MayNot n l ls same good outside = record {
  before = [];
  bad = l;
  behind = ls;
  parts = refl;
  number = same;
  good = good;
  outside = outside;
}

stops_behind : (May MayNot MayBehind MayNotBehind : List Numbered → Type 0) (n : ℕ) (l : Numbered) (ls : List Numbered) → Stops MayBehind MayNotBehind ls n
    → ((before : List Numbered) → MayBehind before → May (l ∷ before)) → ((all : List Numbered) → MayNotBehind all → MayNot (l ∷ all)) → Stops May MayNot (l ∷ ls) n
stops_behind May MayNot MayBehind MayNotBehind n l ls p good outside = record {
  before = l ∷ p.before;
  bad = p.bad;
  behind = p.behind;
  parts = ap (λ (xs : List Numbered). l ∷ xs) p.parts;
  number = p.number;
  good = good p.before p.good;
  outside = λ more. outside (p.before ++ p.bad ∷ more) (p.outside more);
}

-- ---- commands

refused : (size n : ℕ) (l : Numbered) (ls : List Numbered) → command_of size l.1 ≡ None → l.0 ≡ n → StopsReading (commands_of size) (l ∷ ls) n
unfolding commands_of
refused size n l ls none same = stops_here _ _ n l ls same ([], refl) (λ more. rw (none, same) refl)

later : (size n : ℕ) (l : Numbered) (ls : List Numbered) (c : Command) → command_of size l.1 ≡ Some c → StopsReading (commands_of size) ls n → StopsReading (commands_of size) (l ∷ ls) n
unfolding commands_of
later size n l ls c some p = stops_behind _ _ _ _ n l ls p
    (λ before good. ((l.0, c) ∷ good.0, rw (some, good.1) refl))
    (λ all outside. rw (some, outside) refl)

stops_at_command : (size n : ℕ) (ls : List Numbered) → commands_of size ls ≡ Err n → StopsReading (commands_of size) ls n
unfolding commands_of
stops_at_command size n [] e = absurd cc
stops_at_command size n (l ∷ ls) e = at (command_of size l.1) refl e (stops_at_command size n ls)
  where
    behind : (c : Command) (read : Result Commands ℕ) → command_of size l.1 ≡ Some c → commands_of size ls ≡ read → (read >> λ cs. Ok ((l.0, c) ∷ cs)) ≡ Err n
        → (commands_of size ls ≡ Err n → StopsReading (commands_of size) ls n) → StopsReading (commands_of size) (l ∷ ls) n
    behind c (Ok cs) is q e rest = absurd cc
    behind c (Err m) is q e rest = let same : m ≡ n = cc in later size n l ls c is (rest (q ∙ ap (λ (k : ℕ). none_read k) same))

    at : (o : Option Command) → command_of size l.1 ≡ o → (at_line l.0 o >> λ c. commands_of size ls >> λ cs. Ok ((l.0, c) ∷ cs)) ≡ Err n
        → (commands_of size ls ≡ Err n → StopsReading (commands_of size) ls n) → StopsReading (commands_of size) (l ∷ ls) n
    at None is e rest = refused size n l ls is (cc)
    at (Some c) is e rest = behind c (commands_of size ls) is refl e rest

-- ---- the header

begins : (before behind more : List Numbered) (bad l : Numbered) (ls : List Numbered) → l ∷ ls ≡ before ++ bad ∷ behind → (tail : List Numbered) × (before ++ bad ∷ more ≡ l ∷ tail)
begins [] behind more bad l ls e = (more, cc)
begins (b ∷ bs) behind more bad l ls e = (bs ++ bad ∷ more, cc)

no_header_line : (h : Header) (l : Numbered) (ls all : List Numbered) → header_line_of l.1 ≡ None → all ≡ l ∷ ls → behind_size h all ≡ with_commands h all
unfolding behind_size
no_header_line h l ls all none e = rw (e, none) refl

before_no_header_line : (h : Header) (l : Numbered) (ls before behind : List Numbered) (bad : Numbered) → header_line_of l.1 ≡ None → l ∷ ls ≡ before ++ bad ∷ behind → behind_size h before ≡ with_commands h before
unfolding behind_size
before_no_header_line h l ls [] behind bad none e = refl
before_no_header_line h l ls (b ∷ bs) behind bad none e =
    let same : l ≡ b = cc in
    no_header_line h l bs (b ∷ bs) none (ap (λ (k : Numbered). k ∷ bs) (sym same))

among_commands : (h : Header) (n : ℕ) (l : Numbered) (ls : List Numbered) → header_line_of l.1 ≡ None → StopsReading (commands_of h.size) (l ∷ ls) n → StopsReading (behind_size h) (l ∷ ls) n
among_commands h n l ls none p = record {
  before = p.before;
  bad = p.bad;
  behind = p.behind;
  parts = p.parts;
  number = p.number;
  good = (
    record { size = h.size; keeps = h.keeps; journal = unwrap_or h.journal false; lines = p.good.0 },
    before_no_header_line h l ls p.before p.behind p.bad none p.parts ∙ rw p.good.1 refl,
  );
  outside = λ more.
      let b = begins p.before p.behind more p.bad l ls p.parts in
      no_header_line h l b.0 (p.before ++ p.bad ∷ more) none b.1 ∙ rw (p.outside more) refl;
}

no_room : (h : Header) (n : ℕ) (l : Numbered) (ls : List Numbered) (x : HeaderLine) → header_line_of l.1 ≡ Some x → with_header_line h x ≡ None → l.0 ≡ n → StopsReading (behind_size h) (l ∷ ls) n
unfolding behind_size commands_of
no_room h n l ls x is none same = stops_here _ _ n l ls same
    (record { size = h.size; keeps = h.keeps; journal = unwrap_or h.journal false; lines = [] }, refl)
    (λ more. rw (is, none, same) refl)

in_header : (h g : Header) (n : ℕ) (l : Numbered) (ls : List Numbered) (x : HeaderLine) → header_line_of l.1 ≡ Some x → with_header_line h x ≡ Some g → StopsReading (behind_size g) ls n → StopsReading (behind_size h) (l ∷ ls) n
unfolding behind_size
in_header h g n l ls x is some p = stops_behind _ _ _ _ n l ls p
    (λ before good. (good.0, rw (is, some) good.1))
    (λ all outside. rw (is, some) outside)

stops_behind_size : (h : Header) (n : ℕ) (ls : List Numbered) → behind_size h ls ≡ Err n → StopsReading (behind_size h) ls n
unfolding behind_size commands_of
stops_behind_size h n [] e = absurd cc
stops_behind_size h n (l ∷ ls) e = at (header_line_of l.1) refl e (λ g. stops_behind_size g n ls)
  where
    sets : (x : HeaderLine) (o : Option Header) → header_line_of l.1 ≡ Some x → with_header_line h x ≡ o → (at_line l.0 o >> λ g. behind_size g ls) ≡ Err n
        → ((g : Header) → behind_size g ls ≡ Err n → StopsReading (behind_size g) ls n) → StopsReading (behind_size h) (l ∷ ls) n
    sets x None is q e rest = no_room h n l ls x is q (cc)
    sets x (Some g) is q e rest = in_header h g n l ls x is q (rest g e)

    commands : (read : Result Commands ℕ) → header_line_of l.1 ≡ None → commands_of h.size (l ∷ ls) ≡ read
        → (read >> λ cs. whole (record { size = h.size; keeps = h.keeps; journal = unwrap_or h.journal false; lines = cs })) ≡ Err n → StopsReading (behind_size h) (l ∷ ls) n
    commands (Ok cs) is q e = absurd cc
    commands (Err m) is q e = let same : m ≡ n = cc in among_commands h n l ls is (stops_at_command h.size n (l ∷ ls) (q ∙ ap (λ (k : ℕ). none_read k) same))

    at : (o : Option HeaderLine) → header_line_of l.1 ≡ o → by_header_line o (λ x. at_line l.0 (with_header_line h x) >> λ g. behind_size g ls) (with_commands h (l ∷ ls)) ≡ Err n
        → ((g : Header) → behind_size g ls ≡ Err n → StopsReading (behind_size g) ls n) → StopsReading (behind_size h) (l ∷ ls) n
    at None is e rest = commands (commands_of h.size (l ∷ ls)) is refl e
    at (Some x) is e rest = sets x (with_header_line h x) is refl e rest

-- ---- the whole script

no_script : (after n : ℕ) (ls : List Numbered) → script_of_lines after ls ≡ Err n → (s : Script) → ¬ (IsWritten ls s)
no_script after n ls e s w = let this = written_is after ls s w in absurd cc

abbrev MayBegin : List Numbered → Type 0
MayBegin before = (before ≡ []) ⊎ ((s : Script) × IsWritten before s)

abbrev WriteNone : List Numbered → Type 0
WriteNone all = (s : Script) → ¬ (IsWritten all s)

is_first_bad : (ls : List Numbered) (n : ℕ) → Stops MayBegin WriteNone ls n → IsFirstBad ls n
is_first_bad ls n p = record { before = p.before; bad = p.bad; behind = p.behind; parts = p.parts; number = p.number; good = p.good; outside = p.outside }

first_is_bad : (after n : ℕ) (l : Numbered) (ls : List Numbered) → size_of l.1 ≡ None → l.0 ≡ n → IsFirstBad (l ∷ ls) n
unfolding script_of_lines
first_is_bad after n l ls none same = is_first_bad (l ∷ ls) n (stops_here MayBegin WriteNone n l ls same (inl refl)
    (λ more. no_script after l.0 (l ∷ more) (rw none refl)))

later_is_bad : (after n size : ℕ) (l : Numbered) (ls : List Numbered) → size_of l.1 ≡ Some size → StopsReading (behind_size (first_header size)) ls n → IsFirstBad (l ∷ ls) n
unfolding script_of_lines
later_is_bad after n size l ls some p = is_first_bad (l ∷ ls) n (stops_behind MayBegin WriteNone _ _ n l ls p
    (λ before good. inr (good.0, is_written after (l ∷ before) good.0 (rw some good.1)))
    (λ all outside. no_script after n (l ∷ all) (rw some outside)))

pub first_outside : (after n : ℕ) (ls : List Numbered) → script_of_lines after ls ≡ Err n → ((ls ≡ []) × (n ≡ after)) ⊎ IsFirstBad ls n
unfolding script_of_lines
first_outside after n [] e = inl (refl, cc)
first_outside after n (l ∷ ls) e = inr (at (size_of l.1) refl e)
  where
    at : (o : Option ℕ) → size_of l.1 ≡ o → (at_line l.0 o >> λ size. behind_size (first_header size) ls) ≡ Err n → IsFirstBad (l ∷ ls) n
    at None is e = first_is_bad after n l ls is (cc)
    at (Some size) is e = later_is_bad after n size l ls is (stops_behind_size (first_header size) n ls e)
