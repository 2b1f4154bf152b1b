-- A log made by hand: two queues, a service on each, and one dialog between them.
use Rattle.std.specs.Prelude.{ℕ, true, ◌+◌, List, [], ◌∷◌, Some, None, codes}
use Rattle.sb_log.specs.declared.identifiers.Handle.{Handle}
use Rattle.sb_log.specs.declared.identifiers.Who.TheVariants.{A}
use Rattle.sb_log.specs.declared.definitions.Ddl.TheVariants.{Queue, Service}
use Rattle.sb_log.specs.declared.entries.Entry.{Entry}
use Rattle.sb_log.specs.declared.entries.Entry.TheVariants.{Defined, Txn}
use Rattle.sb_log.specs.declared.entries.Op.TheVariants.{Begin}
use Rattle.sb_model.specs.Sides.{Bytes, id}
use Rattle.sb_model.specs.Catalog.{default_name}
use Rattle.sb_model.specs.Acceptance.{instance_id}

-- the n-th handle of the instance A
abbrev pub a_handle : ℕ → Handle
a_handle n = id ((instance_id A).0 + n)

abbrev pub plain_queue : Bytes → Entry
plain_queue name = Defined (Queue (record { name = name; on = true; poison = true; activation = None }))

abbrev pub service_on : Bytes → Bytes → List Bytes → Entry
service_on name queue contracts = Defined (Service (record { name = name; queue = queue; contracts = contracts }))

-- the dialog from Near to Far, which never expires
abbrev pub near_to_far : Entry
near_to_far = Txn 1 (Begin (a_handle 1) (a_handle 2) (record {
  from_service = codes "Near";
  to_service = codes "Far";
  contract = default_name;
  from = instance_id A;
  to = Some (instance_id A);
  expires = 2147483647;
}) ∷ [])

abbrev pub ready_log : List Entry
ready_log =
    plain_queue (codes "NearQ") ∷ plain_queue (codes "FarQ") ∷ service_on (codes "Near") (codes "NearQ") []
    ∷ service_on (codes "Far") (codes "FarQ") (default_name ∷ []) ∷ near_to_far ∷ []
