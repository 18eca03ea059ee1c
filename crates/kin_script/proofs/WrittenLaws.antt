-- The grammar's function and its relation are the same.
use Rattle.std.proofs.Common.{IsTrue, ◌≡◌, ℕ, Bool, true, false, cond, List, [], ◌∷◌, ◌++◌, Option, Some, None, Result, Ok, Err, refl, sym, ap, subst, ◌∙◌, append_assoc}
use Rattle.std.specs.Prelude.{unwrap_or, is_some, codes, option_map}
use Rattle.std.specs.List.{AllZip}
use Rattle.std.specs.Str.{bytes_eq}
use Rattle.std.proofs.lemmas.Slice.Eq.{bytes_eq-Decides}
use Rattle.std.proofs.lemmas.List.{append-nil}
use Rattle.kin_motion.specs.declared.keep.Keep.{Keep}
use Rattle.kin_motion.specs.Keeps.{may_keep}
use Rattle.kin_motion.proofs.KeepLaws.{first_kept}
use Rattle.kin_script.specs.declared.command.Command.{Command}
use Rattle.kin_script.specs.declared.script.Script.{Script}
use Rattle.kin_script.specs.declared.line.HeaderLine.{HeaderLine}
use Rattle.kin_script.specs.declared.line.HeaderLine.TheVariants as header_line
use Rattle.kin_script.specs.Questions.{keep_of, question_of}
use Rattle.kin_script.specs.Lines.{Word}
use Rattle.kin_script.specs.Left.{Numbered}
use Rattle.kin_script.specs.Commands.{command_of, size_of, journal_of, header_line_of}
use Rattle.kin_script.specs.Grammar.{◌>>◌, at_line, by_header_line, Header, commands_of, with_commands, with_header_line, behind_size, script_of_lines}
use Rattle.kin_script.specs.Written.{keeps_of, journals_of, HasJournalLine, SaysHeaderLine, SaysCommand, IsWritten}

abbrev Commands : Type 0
Commands = List (ℕ × Command)

abbrev pub whole : Script → Result Script ℕ
whole s = Ok s

abbrev found : ℕ → Option ℕ
found n = Some n

-- ---- commands

says : (size : ℕ) (ls : List Numbered) (cs : Commands) → commands_of size ls ≡ Ok cs → AllZip (SaysCommand size) ls cs
unfolding commands_of
says size [] [] e = tt
says size [] (c ∷ cs) e = absurd cc
says size (l ∷ ls) cs e = at (command_of size l.1) refl e (says size ls)
  where
    matched : (c : Command) (ds cs : Commands) → command_of size l.1 ≡ Some c → (l.0, c) ∷ ds ≡ cs → AllZip (SaysCommand size) ls ds → AllZip (SaysCommand size) (l ∷ ls) cs
    matched c ds cs is e rest = subst (λ (xs : Commands). AllZip (SaysCommand size) (l ∷ ls) xs) e ((refl, is), rest)

    behind : (c : Command) (read : Result Commands ℕ) → command_of size l.1 ≡ Some c → commands_of size ls ≡ read → (read >> λ ds. Ok ((l.0, c) ∷ ds)) ≡ Ok cs
        → ((ds : Commands) → commands_of size ls ≡ Ok ds → AllZip (SaysCommand size) ls ds) → AllZip (SaysCommand size) (l ∷ ls) cs
    behind c (Err n) is q e rest = absurd cc
    behind c (Ok ds) is q e rest = matched c ds cs is (cc) (rest ds q)

    at : (o : Option Command) → command_of size l.1 ≡ o → (at_line l.0 o >> λ c. commands_of size ls >> λ ds. Ok ((l.0, c) ∷ ds)) ≡ Ok cs
        → ((ds : Commands) → commands_of size ls ≡ Ok ds → AllZip (SaysCommand size) ls ds) → AllZip (SaysCommand size) (l ∷ ls) cs
    at None is e rest = absurd cc
    at (Some c) is e rest = behind c (commands_of size ls) is refl e rest

said : (size : ℕ) (ls : List Numbered) (cs : Commands) → AllZip (SaysCommand size) ls cs → commands_of size ls ≡ Ok cs
unfolding commands_of
said size [] [] z = refl
said size [] (c ∷ cs) z = absurd z
said size (l ∷ ls) [] z = absurd z
said size (l ∷ ls) (c ∷ cs) z = rw (z.0.1, said size ls cs z.1, z.0.0) refl

-- ---- the header, and the commands behind it

abbrev journal_lines : Option Bool → List Bool
journal_lines None = []
journal_lines (Some on) = on ∷ []

-- what is behind the size line, from a header that is partly read
pub record Parts (h : Header) (ls : List Numbered) (s : Script) : Type 0 where
  pub header : List Numbered
  pub header_lines : List HeaderLine
  pub commands : List Numbered
  pub parts : ls ≡ header ++ commands
  pub size : s.size ≡ h.size
  pub header_says : AllZip SaysHeaderLine header header_lines
  pub keeps : s.keeps ≡ h.keeps ++ keeps_of header_lines
  pub keepable : IsTrue (may_keep s.keeps)
  pub journal : HasJournalLine (journal_lines h.journal ++ journals_of header_lines) s.journal
  pub commands_say : AllZip (SaysCommand h.size) commands s.lines

journal_stands : (journal : Option Bool) → HasJournalLine (journal_lines journal ++ []) (unwrap_or journal false)
journal_stands None = refl
journal_stands (Some on) = refl

behind_header : (h : Header) (ls : List Numbered) (s : Script) → may_keep h.keeps ≡ true → with_commands h ls ≡ Ok s → Parts h ls s
behind_header h ls s may e = at (commands_of h.size ls) refl e
  where
    at : (read : Result Commands ℕ) → commands_of h.size ls ≡ read
        → (read >> λ cs. Ok (record { size = h.size; keeps = h.keeps; journal = unwrap_or h.journal false; lines = cs })) ≡ Ok s → Parts h ls s
    at (Err n) q e = absurd cc
    at (Ok cs) q e =
        let this : record { size = h.size; keeps = h.keeps; journal = unwrap_or h.journal false; lines = cs } ≡ s = cc in
        subst (λ (t : Script). Parts h ls t) this (record {
          header = [];
          header_lines = [];
          commands = ls;
          parts = refl;
          size = refl;
          header_says = tt;
          keeps = sym (append-nil h.keeps);
          keepable = may;
          journal = journal_stands h.journal;
          commands_say = says h.size ls cs q;
        })

-- one more line of the header
one_more : (h : Header) (keeps : List Keep) (journal : Option Bool) (l : Numbered) (ls : List Numbered) (s : Script) (x : HeaderLine) → header_line_of l.1 ≡ Some x
    → (p : Parts (record h { keeps = keeps; journal = journal }) ls s) → s.keeps ≡ h.keeps ++ keeps_of (x ∷ p.header_lines)
    → HasJournalLine (journal_lines h.journal ++ journals_of (x ∷ p.header_lines)) s.journal → Parts h (l ∷ ls) s
one_more h keeps journal l ls s x is p kept on = record {
  header = l ∷ p.header;
  header_lines = x ∷ p.header_lines;
  commands = p.commands;
  parts = ap (λ (xs : List Numbered). l ∷ xs) p.parts;
  size = p.size;
  header_says = (is, p.header_says);
  keeps = kept;
  keepable = p.keepable;
  journal = on;
  commands_say = p.commands_say;
}

keep_line : (h : Header) (l : Numbered) (ls : List Numbered) (s : Script) (k : Keep) → header_line_of l.1 ≡ Some (header_line.Keep k)
    → Parts (record h { keeps = h.keeps ++ k ∷ [] }) ls s → Parts h (l ∷ ls) s
keep_line h l ls s k is p =
    one_more h (h.keeps ++ k ∷ []) h.journal l ls s (header_line.Keep k) is p (p.keeps ∙ append_assoc h.keeps (k ∷ []) (keeps_of p.header_lines)) p.journal

journal_line : (h : Header) (l : Numbered) (ls : List Numbered) (s : Script) (on : Bool) → h.journal ≡ None → header_line_of l.1 ≡ Some (header_line.Journal on)
    → Parts (record h { journal = Some on }) ls s → Parts h (l ∷ ls) s
journal_line h l ls s on none is p = one_more h h.keeps (Some on) l ls s (header_line.Journal on) is p p.keeps (rw none p.journal)

-- from the function to the relation
parts_of : (h : Header) (ls : List Numbered) (s : Script) → may_keep h.keeps ≡ true → behind_size h ls ≡ Ok s → Parts h ls s
unfolding behind_size
parts_of h [] s may e = behind_header h [] s may e
parts_of h (l ∷ ls) s may e = at (header_line_of l.1) refl e (λ g. parts_of g ls s)
  where
    keeps : (k : Keep) (room : Bool) → may_keep (h.keeps ++ k ∷ []) ≡ room → header_line_of l.1 ≡ Some (header_line.Keep k)
        → (at_line l.0 (cond room (Some (record h { keeps = h.keeps ++ k ∷ [] })) None) >> λ g. behind_size g ls) ≡ Ok s
        → ((g : Header) → may_keep g.keeps ≡ true → behind_size g ls ≡ Ok s → Parts g ls s) → Parts h (l ∷ ls) s
    keeps k false q is e rest = absurd cc
    keeps k true q is e rest = keep_line h l ls s k is (rest (record h { keeps = h.keeps ++ k ∷ [] }) q e)

    journals : (on : Bool) (journal : Option Bool) → h.journal ≡ journal → header_line_of l.1 ≡ Some (header_line.Journal on)
        → (at_line l.0 (cond (is_some journal) None (Some (record h { journal = Some on }))) >> λ g. behind_size g ls) ≡ Ok s
        → ((g : Header) → may_keep g.keeps ≡ true → behind_size g ls ≡ Ok s → Parts g ls s) → Parts h (l ∷ ls) s
    journals on (Some b) q is e rest = absurd cc
    journals on None q is e rest = journal_line h l ls s on q is (rest (record h { journal = Some on }) may e)

    at : (o : Option HeaderLine) → header_line_of l.1 ≡ o → by_header_line o (λ x. at_line l.0 (with_header_line h x) >> λ g. behind_size g ls) (with_commands h (l ∷ ls)) ≡ Ok s
        → ((g : Header) → may_keep g.keeps ≡ true → behind_size g ls ≡ Ok s → Parts g ls s) → Parts h (l ∷ ls) s
    at None is e rest = behind_header h (l ∷ ls) s may e
    at (Some (header_line.Keep k)) is e rest = keeps k (may_keep (h.keeps ++ k ∷ [])) refl is e rest
    at (Some (header_line.Journal on)) is e rest = journals on h.journal refl is e rest

-- ---- from the relation to the function

named : (name word : List ℕ) → bytes_eq name word ≡ true → name ≡ word
named name word e = (bytes_eq-Decides name word).0 e

no_command : (size : ℕ) (name word : Word) (ws : List Word) (c : Command) → bytes_eq name word ≡ true → command_of size (word ∷ ws) ≡ None → command_of size (name ∷ ws) ≡ Some c → ⊥
no_command size name word ws c e none some = let this = ap (λ (n : Word). command_of size (n ∷ ws)) (named name word e) in absurd cc

no_keep_command : (size : ℕ) (ws : List Word) → command_of size (codes "keep" ∷ ws) ≡ None
unfolding command_of question_of
no_keep_command size ws = refl

no_journal_command : (size : ℕ) (ws : List Word) → command_of size (codes "journal" ∷ ws) ≡ None
unfolding command_of question_of
no_journal_command size ws = refl

-- a line that says a command says nothing of the header
apart : (size : ℕ) (ws : List Word) (c : Command) → command_of size ws ≡ Some c → header_line_of ws ≡ None
unfolding header_line_of
apart size [] c e = refl
apart size (name ∷ ws) c e = at (bytes_eq name (codes "keep")) (bytes_eq name (codes "journal")) refl refl
  where
    at : (k j : Bool) → bytes_eq name (codes "keep") ≡ k → bytes_eq name (codes "journal") ≡ j
        → cond k (option_map (λ x. header_line.Keep x) (keep_of ws)) (cond j (option_map (λ on. header_line.Journal on) (journal_of ws)) None) ≡ None
    at true j p q = absurd (no_command size name (codes "keep") ws c p (no_keep_command size ws) e)
    at false true p q = absurd (no_command size name (codes "journal") ws c q (no_journal_command size ws) e)
    at false false p q = refl

-- the commands begin where the header ends
commands_alone : (h : Header) (ls : List Numbered) (cs : Commands) → AllZip (SaysCommand h.size) ls cs → behind_size h ls ≡ with_commands h ls
unfolding behind_size
commands_alone h [] cs z = refl
commands_alone h (l ∷ ls) [] z = absurd z
commands_alone h (l ∷ ls) (c ∷ cs) z = rw (apart h.size l.1 c.1 z.0.1) refl

journal_is : (journal : Option Bool) (on : Bool) → HasJournalLine (journal_lines journal ++ []) on → on ≡ unwrap_or journal false
journal_is None on j = j
journal_is (Some b) on j = j

room_for : (keeps more : List Keep) (k : Keep) → may_keep (keeps ++ k ∷ more) ≡ true → may_keep (keeps ++ k ∷ []) ≡ true
room_for keeps more k may = first_kept (keeps ++ k ∷ []) more (ap may_keep (append_assoc keeps (k ∷ []) more) ∙ may)

no_journal_yet : (journal : Option Bool) (on later : Bool) (js : List Bool) → HasJournalLine (journal_lines journal ++ on ∷ js) later → journal ≡ None
no_journal_yet None on later js j = refl
no_journal_yet (Some b) on later js j = absurd j

assembled : (h : Header) (s : Script) → s.size ≡ h.size → s.keeps ≡ h.keeps → s.journal ≡ unwrap_or h.journal false
    → record { size = h.size; keeps = h.keeps; journal = unwrap_or h.journal false; lines = s.lines } ≡ s
assembled h s size keeps journal = rw (← size, ← keeps, ← journal) refl

with_these : (h : Header) (ls : List Numbered) (s : Script) → s.size ≡ h.size → s.keeps ≡ h.keeps → s.journal ≡ unwrap_or h.journal false
    → commands_of h.size ls ≡ Ok s.lines → with_commands h ls ≡ Ok s
with_these h ls s size keeps journal e = rw e (ap (λ (t : Script). whole t) (assembled h s size keeps journal))

written_behind : (h : Header) (header : List Numbered) (header_lines : List HeaderLine) (commands : List Numbered) (s : Script)
    → AllZip SaysHeaderLine header header_lines → s.size ≡ h.size → s.keeps ≡ h.keeps ++ keeps_of header_lines → may_keep s.keeps ≡ true
    → HasJournalLine (journal_lines h.journal ++ journals_of header_lines) s.journal → AllZip (SaysCommand h.size) commands s.lines
    → behind_size h (header ++ commands) ≡ Ok s
unfolding behind_size
written_behind h [] [] commands s z size keeps may j says =
    commands_alone h commands s.lines says
    ∙ with_these h commands s size (keeps ∙ append-nil h.keeps) (journal_is h.journal s.journal j) (said h.size commands s.lines says)
written_behind h [] (x ∷ xs) commands s z size keeps may j says = absurd z
written_behind h (l ∷ ls) [] commands s z size keeps may j says = absurd z
written_behind h (l ∷ ls) (header_line.Keep k ∷ xs) commands s z size keeps may j says =
    let room = room_for h.keeps (keeps_of xs) k (ap may_keep (sym keeps) ∙ may) in
    rw (z.0, room)
    (written_behind (record h { keeps = h.keeps ++ k ∷ [] }) ls xs commands s z.1 size (keeps ∙ sym (append_assoc h.keeps (k ∷ []) (keeps_of xs))) may j says)
written_behind h (l ∷ ls) (header_line.Journal on ∷ xs) commands s z size keeps may j says =
    let none = no_journal_yet h.journal on s.journal (journals_of xs) j in
    rw (z.0, none)
    (written_behind (record h { journal = Some on }) ls xs commands s z.1 size keeps may (rw none at j) says)

-- ---- the whole script

abbrev pub first_header : ℕ → Header
first_header size = record { size = size; keeps = []; journal = None }

pub is_written : (after : ℕ) (ls : List Numbered) (s : Script) → script_of_lines after ls ≡ Ok s → IsWritten ls s
unfolding script_of_lines
is_written after [] s e = absurd cc
is_written after (l ∷ ls) s e = at (size_of l.1) refl e
  where
    at : (o : Option ℕ) → size_of l.1 ≡ o → (at_line l.0 o >> λ size. behind_size (first_header size) ls) ≡ Ok s → IsWritten (l ∷ ls) s
    at None is e = absurd cc
    at (Some size) is e =
        let p = parts_of (first_header size) ls s refl e in
        record {
          first = l;
          header = p.header;
          header_lines = p.header_lines;
          commands = p.commands;
          parts = ap (λ (xs : List Numbered). l ∷ xs) p.parts;
          size = is ∙ ap (λ (k : ℕ). found k) (sym p.size);
          header_says = p.header_says;
          keeps = p.keeps;
          keepable = p.keepable;
          journal = p.journal;
          commands_say = subst (λ (k : ℕ). AllZip (SaysCommand k) p.commands s.lines) (sym p.size) p.commands_say;
        }

pub written_is : (after : ℕ) (ls : List Numbered) (s : Script) → IsWritten ls s → script_of_lines after ls ≡ Ok s
unfolding script_of_lines
written_is after ls s w =
    rw (w.parts, w.size)
    (written_behind (first_header s.size) w.header w.header_lines w.commands s w.header_says refl w.keeps w.keepable w.journal w.commands_say)
