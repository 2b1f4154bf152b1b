-- Open transactions, what they hold, and the log as each sees it.
use Rattle.std.specs.Prelude.{ℕ, ℤ, Bool, not, ◌&&◌, ◌==◌, List, [], ◌∷◌, ◌++◌, Option, find, option_map, is_none}
use Rattle.std.specs.Option.{option_map_or}
use Rattle.std.specs.List.{list_any}
use Rattle.sb_log.specs.declared.identifiers.Handle.{Handle}
use Rattle.sb_log.specs.declared.entries.Entry.{Entry}
use Rattle.sb_log.specs.declared.entries.Entry.TheVariants.{Txn}
use Rattle.sb_log.specs.declared.entries.Op.{Op}
use Rattle.sb_model.specs.Sides.{Bytes, same_name, same_id}
use Rattle.sb_model.specs.Rows.{same_int}

-- a key of a table
pub record Key : Type 0 where
  pub table : Bytes
  pub key : ℤ

abbrev pub same_key : Key → Key → Bool
same_key a b = same_name a.table b.table && same_int a.key b.key

-- whose transaction it is
pub data Owner : Type 0 where
  Session : (number : ℕ) → Owner
  Reader : (number : ℕ) (queue : Bytes) → Owner

-- an open transaction
pub record OpenTransaction : Type 0 where
  pub owner : Owner
  pub tx : ℕ
  pub ops : List Op
  pub groups : List Handle
  pub keys : List Key
  pub waits_for : Option ℕ

-- the log as the transaction sees it
abbrev pub with_ops : List Entry → ℕ → List Op → List Entry
with_ops log tx [] = log
with_ops log tx (op ∷ ops) = log ++ Txn tx (op ∷ ops) ∷ []

abbrev pub find_open : List OpenTransaction → ℕ → Option OpenTransaction
find_open u tx = find (λ o. o.tx == tx) u

abbrev pub view : List Entry → List OpenTransaction → ℕ → List Entry
view log u tx = option_map_or (λ o. with_ops log tx o.ops) (find_open u tx) log

-- another open transaction lists the group
abbrev pub holds_other : Handle → ℕ → OpenTransaction → Bool
holds_other g tx o = not (o.tx == tx) && list_any (same_id g) o.groups

-- the other open transaction that holds the group
abbrev pub holder : List OpenTransaction → Handle → ℕ → Option ℕ
holder u g tx = option_map (λ o. o.tx) (find (holds_other g tx) u)

-- no other open transaction lists the group
abbrev pub is_free : List OpenTransaction → Handle → ℕ → Bool
is_free u g tx = is_none (holder u g tx)

abbrev pub locks_other : Key → ℕ → OpenTransaction → Bool
locks_other k tx o = not (o.tx == tx) && list_any (same_key k) o.keys

abbrev pub key_holder : List OpenTransaction → Key → ℕ → Option ℕ
key_holder u k tx = option_map (λ o. o.tx) (find (locks_other k tx) u)

-- no other open transaction locks the row's key
abbrev pub row_is_free : List OpenTransaction → Key → ℕ → Bool
row_is_free u k tx = is_none (key_holder u k tx)
