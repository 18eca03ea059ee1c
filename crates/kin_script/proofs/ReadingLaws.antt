-- Reading the lines, one after the other.
use Rattle.std.proofs.Common.{◌≡◌, ℕ, true, false, List, [], ◌∷◌, ◌++◌, length, Some, None, Result, Ok, Err, refl, sym, ap, ◌∙◌, append_assoc, arith}
use Rattle.std.specs.Prelude.{unwrap_or, ◌==◌, OnOk}
use Rattle.std.proofs.lemmas.Bool.Decides.{nat_tests}
use Rattle.kin_script.specs.declared.command.Command.{Command}
use Rattle.kin_script.specs.declared.script.Script.{Script}
use Rattle.kin_script.specs.declared.line.HeaderLine.{HeaderLine}
use Rattle.kin_script.specs.declared.read.Draft.{Draft}
use Rattle.kin_script.specs.declared.read.ReadError.{ReadError}
use Rattle.kin_script.specs.declared.read.ReadError.TheVariants.{BadLine, NoMemory}
use Rattle.kin_script.specs.Lines.{Word}
use Rattle.kin_script.specs.Left.{Numbered}
use Rattle.kin_script.specs.Commands.{command_of, header_line_of}
use Rattle.kin_script.specs.Grammar.{◌>>◌, Header, commands_of, with_commands, with_header_line, behind_size}
use Rattle.kin_script.specs.Gives.{IfBadLine}
use Rattle.kin_script.specs.Reading.{header, finished, reads, Continues}

abbrev Commands : Type 0
Commands = List (ℕ × Command)

abbrev outside : ℕ → Result Script ℕ
outside n = Err n

abbrev pub whole : Script → Result Script ℕ
whole s = Ok s

at_front : (d : Draft) (ls : List Numbered) → d.commands ≡ [] → reads d ls ≡ behind_size (header d) ls
at_front d ls e = rw e refl

-- ---- a line of the header

sets : (h g : Header) (n : ℕ) (ws : List Word) (ls : List Numbered) (s : HeaderLine)
    → Some s ≡ header_line_of ws → with_header_line h s ≡ Some g → behind_size h ((n, ws) ∷ ls) ≡ behind_size g ls
unfolding behind_size
sets h g n ws ls s e w = rw (← e, w) refl

pub takes_header_line : (d e : Draft) (n : ℕ) (ws : List Word) (ls : List Numbered) (s : HeaderLine)
    → d.commands ≡ [] → e.commands ≡ d.commands → Some s ≡ header_line_of ws → with_header_line (header d) s ≡ Some (header e)
    → reads d ((n, ws) ∷ ls) ≡ reads e ls
takes_header_line d e n ws ls s front same is w =
    at_front d ((n, ws) ∷ ls) front ∙ sets (header d) (header e) n ws ls s is w ∙ sym (at_front e ls (same ∙ front))

refuses : (h : Header) (n : ℕ) (ws : List Word) (ls : List Numbered) (s : HeaderLine)
    → Some s ≡ header_line_of ws → with_header_line h s ≡ None → behind_size h ((n, ws) ∷ ls) ≡ Err n
unfolding behind_size
refuses h n ws ls s e w = rw (← e, w) refl

pub refuses_header_line : (d : Draft) (n m : ℕ) (ws : List Word) (ls : List Numbered) (s : HeaderLine)
    → d.commands ≡ [] → Some s ≡ header_line_of ws → (with_header_line (header d) s ≡ None) × (m ≡ n) → reads d ((n, ws) ∷ ls) ≡ Err m
refuses_header_line d n m ws ls s front is w =
    at_front d ((n, ws) ∷ ls) front ∙ refuses (header d) n ws ls s is w.0 ∙ ap outside (sym w.1)

-- ---- a command

-- the script of a draft, whose commands are these
abbrev script_with : Draft → Commands → Script
script_with d cs = record { size = d.size; keeps = d.keeps; journal = unwrap_or d.journal false; lines = cs }

abbrev pub behind : Draft → Commands → Result Commands ℕ → Result Script ℕ
behind d front read = read >> λ cs. Ok (script_with d (front ++ cs))

regroup : (d : Draft) (front : Commands) (c : ℕ × Command) (read : Result Commands ℕ) → behind d front (read >> λ cs. Ok (c ∷ cs)) ≡ behind d (front ++ c ∷ []) read
regroup d front c (Ok cs) = ap (λ (xs : Commands). whole (script_with d xs)) (sym (append_assoc front (c ∷ []) cs))
regroup d front c (Err n) = refl

-- the header ends at a line that doesn't belong to it
ends : (h : Header) (n : ℕ) (ws : List Word) (ls : List Numbered) → None ≡ header_line_of ws → behind_size h ((n, ws) ∷ ls) ≡ with_commands h ((n, ws) ∷ ls)
unfolding behind_size
ends h n ws ls e = rw (← e) refl

-- behind a command, and at a line that doesn't belong to the header, commands are read
reads_commands-first : (d : Draft) (n : ℕ) (ws : List Word) (ls : List Numbered) → d.commands ≡ [] → None ≡ header_line_of ws
    → reads d ((n, ws) ∷ ls) ≡ behind d d.commands (commands_of d.size ((n, ws) ∷ ls))
reads_commands-first d n ws ls front e = at_front d ((n, ws) ∷ ls) front ∙ ends (header d) n ws ls e ∙ rw front refl

not_first : (d : Draft) (ls : List Numbered) (cs : Commands) → d.commands ≡ cs → (length cs == 0) ≡ false → reads d ls ≡ behind d d.commands (commands_of d.size ls)
not_first d ls [] e some = absurd cc
not_first d ls (c ∷ cs) e some = rw e refl

pub reads_commands-later : (d : Draft) (ls : List Numbered) → (length d.commands == 0) ≡ false → reads d ls ≡ behind d d.commands (commands_of d.size ls)
reads_commands-later d ls some = not_first d ls d.commands refl some

one_more : (d : Draft) (front : Commands) (n : ℕ) (ws : List Word) (ls : List Numbered) (c : Command)
    → Some c ≡ command_of d.size ws → behind d front (commands_of d.size ((n, ws) ∷ ls)) ≡ behind d (front ++ (n, c) ∷ []) (commands_of d.size ls)
unfolding commands_of
one_more d front n ws ls c h = rw (← h) (regroup d front (n, c) (commands_of d.size ls))

pub takes_command : (d e : Draft) (n : ℕ) (ws : List Word) (ls : List Numbered) (c : Command)
    → reads d ((n, ws) ∷ ls) ≡ behind d d.commands (commands_of d.size ((n, ws) ∷ ls))
    → Some c ≡ command_of d.size ws → e.size ≡ d.size → e.keeps ≡ d.keeps → e.journal ≡ d.journal → e.commands ≡ d.commands ++ (n, c) ∷ []
    → reads d ((n, ws) ∷ ls) ≡ reads e ls
takes_command d e n ws ls c so_far h size keeps journal commands =
    let later = reads_commands-later e ls (rw commands (grind (arith, nat_tests))) in
    so_far ∙ one_more d d.commands n ws ls c h ∙ rw (later, size, keeps, journal, commands) refl

stops : (d : Draft) (front : Commands) (n : ℕ) (ws : List Word) (ls : List Numbered)
    → None ≡ command_of d.size ws → behind d front (commands_of d.size ((n, ws) ∷ ls)) ≡ Err n
unfolding commands_of
stops d front n ws ls h = rw (← h) refl

pub refuses_command : (d : Draft) (n : ℕ) (ws : List Word) (ls : List Numbered)
    → reads d ((n, ws) ∷ ls) ≡ behind d d.commands (commands_of d.size ((n, ws) ∷ ls)) → None ≡ command_of d.size ws → reads d ((n, ws) ∷ ls) ≡ Err n
refuses_command d n ws ls so_far h = so_far ∙ stops d d.commands n ws ls h

-- ---- the end

done_at : (d : Draft) (cs : Commands) → d.commands ≡ cs → reads d [] ≡ Ok (finished d [])
unfolding behind_size commands_of
done_at d [] e = rw e refl
done_at d (c ∷ cs) e = rw e refl

pub done : (d : Draft) → reads d [] ≡ Ok (finished d [])
done d = done_at d d.commands refl

-- ---- one line, by what the reader answers

empty : {A : Type 0} (xs : List A) → (length xs == 0) ≡ true → xs ≡ []
empty [] e = refl
empty (x ∷ xs) e = absurd (grind (arith, nat_tests))

pub follows_header_line : (d e : Draft) (n : ℕ) (ws : List Word) (s : HeaderLine) (r : Result (Unit {0}) ReadError)
    → (length d.commands == 0) ≡ true → Some s ≡ header_line_of ws
    → OnOk r (with_header_line (header d) s ≡ Some (header e)) → IfBadLine r (λ m. (with_header_line (header d) s ≡ None) × (m ≡ n)) → e.commands ≡ d.commands
    → (ls : List Numbered) → Continues r (reads d ((n, ws) ∷ ls)) (reads e ls)
follows_header_line d e n ws s (Ok x) front is ok bad same ls = takes_header_line d e n ws ls s (empty d.commands front) same is ok
follows_header_line d e n ws s (Err (BadLine m)) front is ok bad same ls = refuses_header_line d n m ws ls s (empty d.commands front) is bad
follows_header_line d e n ws s (Err NoMemory) front is ok bad same ls = tt

pub reads_commands-front : (d : Draft) (n : ℕ) (ws : List Word) (ls : List Numbered) → (length d.commands == 0) ≡ true → None ≡ header_line_of ws
    → reads d ((n, ws) ∷ ls) ≡ behind d d.commands (commands_of d.size ((n, ws) ∷ ls))
reads_commands-front d n ws ls front e = reads_commands-first d n ws ls (empty d.commands front) e
