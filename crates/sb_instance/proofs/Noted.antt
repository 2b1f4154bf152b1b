-- What an instance notes stays so.
use Rattle.std.proofs.Common.{◌≡◌, ℕ, ◌<◌, ◌^◌, List, [], ◌∷◌, ◌++◌, sym, subst, ◌⊎◌}
use Rattle.std.specs.Prelude.{Option, None, IfSome}
use Rattle.std.proofs.lemmas.List.Elements.{All-nil}
use Rattle.sb_log.specs.declared.entries.Entry.{Entry}
use Rattle.sb_log.specs.declared.entries.Op.{Op}
use Rattle.sb_log.specs.declared.identifiers.Who.{Who}
use Rattle.sb_model.specs.Statements.{txn_entries}
use Rattle.sb_catalog.specs.Known.{Known}
use Rattle.sb_instance.specs.Carrying.{IsCarried}
use Rattle.sb_instance.specs.Noted.{IsOfLog, IsSound}
use Rattle.sb_instance.specs.Sending.{AreSending, IsQuiet, MaySend}
use Rattle.sb_instance.specs.Waiting.{IsWaiting}
use Rattle.sb_instance.specs.declared.carrying.Carrying.{Carrying}
use Rattle.sb_instance.specs.declared.sending.Sending.{Sending}
use Rattle.sb_instance.specs.declared.waiting.Waiting.{Waiting}
use Rattle.sb_instance.proofs.Sent.{sending_more, sending_noted}

-- nothing is noted
pub sound_cleared : (who : Who) (log : List Entry) (next : ℕ) (sending : List Sending) → next < 2 ^ 64 → sending ≡ [] → IsSound who log next None sending None
sound_cleared who log next sending small none =
    record { small = small; carrying_so = tt; sending_so = subst (AreSending log) (sym none) (All-nil (λ x. MaySend log x.handle x.side)); waiting_so = tt }

-- one more side may send
pub sound_more : (who : Who) (log seen : List Entry) (next : ℕ) (noted : Option Carrying) (sending after : List Sending) (x : Sending) (waiting : Option Waiting) → IsSound who log next noted sending waiting → seen ≡ log → MaySend seen x.handle x.side
    → (after ≡ sending) ⊎ (after ≡ sending ++ x ∷ []) → IsSound who log next noted after waiting
sound_more who log seen next noted sending after x waiting sound sees may pushed =
    record {
      small = sound.small;
      carrying_so = sound.carrying_so;
      sending_so = sending_noted log sending after x sound.sending_so (subst (λ l. MaySend l x.handle x.side) sees may) pushed;
      waiting_so = sound.waiting_so;
    }

-- a transaction that makes, ends, cleans and moves no side
pub sound_committed : (who : Who) (log later : List Entry) (next tx : ℕ) (ops : List Op) (noted : Option Carrying) (sending : List Sending) (waiting : Option Waiting) →
    IsSound who log next noted sending waiting → IsQuiet ops → later ≡ log ++ txn_entries tx ops → IsSound who later next None sending None
sound_committed who log later next tx ops noted sending waiting sound quiet written =
    record { small = sound.small; carrying_so = tt; sending_so = subst (λ l. AreSending l sending) (sym written) (sending_more log tx ops sending quiet sound.sending_so); waiting_so = tt }

-- a message's side is noted
pub sound_carrying : (who : Who) (log : List Entry) (next : ℕ) (noted after : Option Carrying) (sending : List Sending) (waiting : Option Waiting) → IsSound who log next noted sending waiting
    → IfSome after (IsCarried who log) → IsSound who log next after sending waiting
sound_carrying who log next noted after sending waiting sound carried =
    record { small = sound.small; carrying_so = carried; sending_so = sound.sending_so; waiting_so = sound.waiting_so }

-- what waits is noted
pub sound_waiting : (who : Who) (log : List Entry) (next : ℕ) (noted : Option Carrying) (sending : List Sending) (waiting after : Option Waiting) → IsSound who log next noted sending waiting
    → IfSome after (IsWaiting log) → IsSound who log next noted sending after
sound_waiting who log next noted sending waiting after sound waits =
    record { small = sound.small; carrying_so = sound.carrying_so; sending_so = sound.sending_so; waiting_so = waits }

-- what is noted may be forgotten
pub forgotten : (who : Who) (log : List Entry) (next : ℕ) (noted : Option Carrying) (sending after : List Sending) (waiting : Option Waiting) (catalog : Known) →
    IsOfLog who log next noted sending waiting catalog → after ≡ [] → IsOfLog who log next None after None catalog
forgotten who log next noted sending after waiting catalog are none =
    record { noted = sound_cleared who log next after are.noted.small none; catalog_so = are.catalog_so }
