-- The open transactions of the definitions that this crate's stand for.
use Rattle.std.specs.Prelude.{map}
use Rattle.sb_scan.specs.declared.opened.Key.{Key as OwnKey}
use Rattle.sb_scan.specs.declared.opened.Owner.{Owner as OwnOwner}
use Rattle.sb_scan.specs.declared.opened.Owner.TheVariants as own
use Rattle.sb_scan.specs.declared.opened.OpenTransaction.{OpenTransaction as OwnTransaction}
use Rattle.sb_model.specs.Transactions.{Key, Owner, Session, Reader, OpenTransaction}

abbrev pub key_seen : OwnKey → Key
key_seen k = record { table = k.table; key = k.key }

abbrev pub owner_seen : OwnOwner → Owner
owner_seen (own.Session number) = Session number
owner_seen (own.Reader number queue) = Reader number queue

abbrev pub open_seen : OwnTransaction → OpenTransaction
open_seen o = record {
  owner = owner_seen o.owner;
  tx = o.tx;
  ops = o.ops;
  groups = o.groups;
  keys = map key_seen o.keys;
  waits_for = o.waits_for;
}
