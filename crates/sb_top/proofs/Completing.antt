-- With the word, a script and no fault the whole script runs, unless memory is wanting or the history is full.
use Rattle.std.proofs.Common.{◌≡◌, ℕ, ◌+◌, ◌≤◌, ◌<◌, Bool, true, false, List, ◌++◌, [], length, ◌⊎◌, inl, inr, Option, Some, None, Ok, refl, sym, ap, ◌∙◌, subst, arith, length-append, append-nil}
use Rattle.std.specs.Prelude.{nat_lt, ◌↔◌}
use Rattle.std.specs.Str.{is_utf8}
use Rattle.std.proofs.lemmas.Bool.{lt-ltb, ltb-false, ltb-true}
use Rattle.sb_log.specs.declared.steps.Step.{Step}
use Rattle.sb_script.specs.Script.{SayBy, ScriptSays, limit}
use Rattle.sb_script.specs.declared.commands.BadWhy.{BadWhy}
use Rattle.sb_script.specs.declared.commands.Command.{Command}
use Rattle.sb_top.specs.Ends.{Followed, HasBadScript, IsRead, IsScript, Ran, status_of}
use Rattle.sb_top.specs.declared.ending.Why.{Why}
use Rattle.sb_top.specs.declared.ending.Why.TheVariants as why

-- bytes past the limit are no script
long_is_bad : (bytes : List ℕ) → limit < length bytes → IsScript bytes → ⊥
long_is_bad bytes longer good = never_ok (subst (λ b. SayBy b (is_utf8 bytes) bytes (Ok good.0)) (lt-ltb limit (length bytes) longer) good.1)
  where
    never_ok : SayBy true (is_utf8 bytes) bytes (Ok good.0) → ⊥
    never_ok e = cc

-- a source that tells its bytes was read: to its end, or they are past the limit
read_whole : (bytes : List ℕ) (new : Option (List ℕ)) (mine : List ℕ) (fits : Bool) → nat_lt limit (length mine) ≡ fits → IsRead (Some bytes) new mine
    → (mine ≡ bytes) ⊎ (limit < length bytes)
read_whole bytes None mine fits e read = absurd read.consumed
read_whole bytes (Some rest) mine true e read =
    let longer : limit < length mine = ltb-true limit (length mine) e in
    inr (omega (arith, ap length read.consumed, length-append mine rest))
read_whole bytes (Some rest) mine false e read =
    let ended : rest ≡ [] = read.whole (ltb-false limit (length mine) e) in
    inl (sym (read.consumed ∙ ap (λ r. mine ++ r) ended ∙ append-nil mine))

-- a source whose bytes are a script isn't refused
no_bad_script : (bytes : List ℕ) (new : Option (List ℕ)) (line : ℕ) (w : BadWhy) → IsScript bytes → HasBadScript (why.Script line w) (Some bytes) new → ⊥
no_bad_script bytes new line w good h = by_read (read_whole bytes new h.0 (nat_lt limit (length h.0)) refl h.1)
  where
    by_read : (h.0 ≡ bytes) ⊎ (limit < length bytes) → ⊥
    by_read (inl same) = h.2.no_script good.0 (subst (λ b. ScriptSays b (Ok good.0)) (sym same) good.1)
    by_read (inr longer) = long_is_bad bytes longer good

pub complete : (bytes : List ℕ) (w : Why) (status : ℕ) (left : Option (List ℕ)) (new : Option (List ℕ)) (word : Bool) (Read Write : Type 0)
    → status ≡ status_of w → ((w ≡ why.Usage) ↔ (word ≡ false)) → HasBadScript w left new → (w ≡ why.ReadFault → Read) → (w ≡ why.WriteFault → Write)
    → word ≡ true → left ≡ Some bytes → IsScript bytes → (Read → ⊥) → (Write → ⊥) → (status ≡ 0) ⊎ (status ≡ 5) ⊎ (status ≡ 8)
complete bytes why.Fine status left new word Read Write is usage bad_script read write given tells good no_read no_write = inl is
complete bytes (why.Script line w) status left new word Read Write is usage bad_script read write given tells good no_read no_write =
    absurd (no_bad_script bytes new line w good (subst (λ l. HasBadScript (why.Script line w) l new) tells bad_script))
complete bytes why.Usage status left new word Read Write is usage bad_script read write given tells good no_read no_write =
    let unread : word ≡ false = usage.0 refl in cc
complete bytes why.ReadFault status left new word Read Write is usage bad_script read write given tells good no_read no_write = absurd (no_read (read refl))
complete bytes why.WriteFault status left new word Read Write is usage bad_script read write given tells good no_read no_write = absurd (no_write (write refl))
complete bytes why.OutOfMemory status left new word Read Write is usage bad_script read write given tells good no_read no_write = inr (inl is)
complete bytes (why.HistoryFull b n) status left new word Read Write is usage bad_script read write given tells good no_read no_write = inr (inr is)

-- ---- a run of commands is a run of the script

fits : (bytes : List ℕ) (commands : List Command) → ScriptSays bytes (Ok commands) → length bytes ≤ limit
fits bytes commands spelled = by_test (nat_lt limit (length bytes)) refl
  where
    by_test : (b : Bool) → nat_lt limit (length bytes) ≡ b → length bytes ≤ limit
    by_test true longer = absurd (long_is_bad bytes (ltb-true limit (length bytes) longer) (commands, spelled))
    by_test false short = ltb-false limit (length bytes) short

pub followed : (w : Why) (old new : Option (List ℕ)) (bytes : List ℕ) (commands : List Command) (history : List Step) → IsRead old new bytes → ScriptSays bytes (Ok commands)
    → Ran w commands history → Followed w old new history
followed why.Fine old new bytes commands history read spelled ran = record { at_end = read.whole (fits bytes commands spelled); follows = (bytes, commands, read, spelled, ran) }
followed (why.HistoryFull b n) old new bytes commands history read spelled ran = record { at_end = read.whole (fits bytes commands spelled); follows = (bytes, commands, read, spelled, ran) }
followed why.WriteFault old new bytes commands history read spelled ran = (bytes, commands, read, spelled, ran)
followed why.OutOfMemory old new bytes commands history read spelled ran = inr (bytes, commands, read, spelled, ran)
followed (why.Script line w) old new bytes commands history read spelled ran = absurd ran
followed why.Usage old new bytes commands history read spelled ran = absurd ran
followed why.ReadFault old new bytes commands history read spelled ran = absurd ran

pub no_script_refused : (w : Why) (old new : Option (List ℕ)) (commands : List Command) (history : List Step) → Ran w commands history → HasBadScript w old new
no_script_refused (why.Script line w) old new commands history ran = absurd ran
no_script_refused _ old new commands history ran = tt

pub no_usage : (w : Why) (word : Bool) (commands : List Command) (history : List Step) → word ≡ true → Ran w commands history → (w ≡ why.Usage) ↔ (word ≡ false)
no_usage why.Usage word commands history is ran = absurd ran
no_usage why.Fine word commands history is ran = (λ e. cc, λ e. cc)
no_usage (why.HistoryFull b n) word commands history is ran = (λ e. cc, λ e. cc)
no_usage why.WriteFault word commands history is ran = (λ e. cc, λ e. cc)
no_usage why.OutOfMemory word commands history is ran = (λ e. cc, λ e. cc)
no_usage (why.Script line w) word commands history is ran = absurd ran
no_usage why.ReadFault word commands history is ran = absurd ran

pub no_read_fault : (w : Why) (P : Type 0) (commands : List Command) (history : List Step) → Ran w commands history → w ≡ why.ReadFault → P
no_read_fault why.ReadFault P commands history ran e = absurd ran
no_read_fault why.Fine P commands history ran e = cc
no_read_fault (why.HistoryFull b n) P commands history ran e = cc
no_read_fault why.WriteFault P commands history ran e = cc
no_read_fault why.OutOfMemory P commands history ran e = cc
no_read_fault (why.Script line w) P commands history ran e = absurd ran
no_read_fault why.Usage P commands history ran e = absurd ran
