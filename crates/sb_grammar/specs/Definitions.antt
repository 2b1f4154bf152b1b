-- Definitions.
use Rattle.std.specs.Prelude.{◌≡◌, ℕ, ℤ, pos, Bool, true, false, not, ◌&&◌, nat_lt, List, [], ◌∷◌, take, drop, length, codes, Option, Some, None, unwrap_or, is_none, if◌then◌else◌}
use Rattle.std.specs.Str.{bytes_eq, str_eq_ignore_ascii_case}
use Rattle.std.specs.List.{list_all}
use Rattle.std.specs.Char.{is_ascii_digit}
use Rattle.std.specs.Option.{option_map}
use Rattle.sb_log.specs.declared.identifiers.Handle.{Handle}
use Rattle.sb_log.specs.declared.identifiers.Who.{Who}
use Rattle.sb_log.specs.declared.identifiers.Who.TheVariants as who
use Rattle.sb_log.specs.declared.definitions.Ddl.TheVariants as ddl
use Rattle.sb_log.specs.declared.definitions.Sender.{Sender}
use Rattle.sb_log.specs.declared.definitions.Sender.TheVariants as senders
use Rattle.sb_log.specs.declared.definitions.SentBy.{SentBy}
use Rattle.sb_log.specs.declared.definitions.Activation.{Activation}
use Rattle.sb_lex.specs.declared.token.TokenKind.{TokenKind}
use Rattle.sb_lex.specs.declared.token.TokenKind.TheVariants as tokens
use Rattle.sb_grammar.specs.declared.lexeme.Lexeme.{Lexeme}
use Rattle.sb_grammar.specs.declared.tree.Statement.{Statement}
use Rattle.sb_grammar.specs.declared.tree.Statement.TheVariants as s
use Rattle.sb_grammar.specs.declared.choice.Barred.{Barred}
use Rattle.sb_grammar.specs.declared.choice.Barred.TheVariants as barreds
use Rattle.sb_grammar.specs.declared.choice.Made.{Made}
use Rattle.sb_grammar.specs.declared.choice.Made.TheVariants as made
use Rattle.sb_grammar.specs.declared.choice.QueueOption.{QueueOption}
use Rattle.sb_grammar.specs.declared.choice.QueueOption.TheVariants as queue_option
use Rattle.sb_grammar.specs.declared.choice.QueueOptions.{QueueOptions}
use Rattle.sb_grammar.specs.declared.choice.ActivationOption.{ActivationOption}
use Rattle.sb_grammar.specs.declared.choice.ActivationOption.TheVariants as activation_option
use Rattle.sb_grammar.specs.declared.choice.ActivationOptions.{ActivationOptions}
use Rattle.sb_grammar.specs.declared.choice.RouteOption.{RouteOption}
use Rattle.sb_grammar.specs.declared.choice.RouteOption.TheVariants as route_option
use Rattle.sb_grammar.specs.declared.choice.RouteOptions.{RouteOptions}
use Rattle.sb_grammar.specs.declared.choice.PriorityOption.{PriorityOption}
use Rattle.sb_grammar.specs.declared.choice.PriorityOption.TheVariants as priority_option
use Rattle.sb_grammar.specs.declared.choice.PriorityOptions.{PriorityOptions}
use Rattle.sb_grammar.specs.declared.word.Fixed.{Fixed}
use Rattle.sb_grammar.specs.declared.word.Fixed.TheVariants as fixed
use Rattle.sb_grammar.specs.Words.{is_fixed, fixed_at, example}
use Rattle.sb_grammar.specs.Rules.{Rule, token, also, ended, alt, bind, map_rule, pure, optional, loop, barred, push_step, singleton, most, Any, Rests, head}
use Rattle.sb_grammar.specs.Values.{handle_by, sign, word, phrase, name, name_of, qname, text, text_of, number, number_of, on_off}
use Rattle.sb_grammar.specs.Options.{Choices, options}
use Rattle.sb_grammar.specs.Stops.{Stops}

-- members with commas between
unfoldable pub commas : {A : Type 0} → Rule A → Rule (List A)
commas p = bind (map_rule singleton p) (λ all. loop most (fixed_at fixed.Comma) (push_step p) all) (Rests (fixed_at fixed.Comma) (push_step p))

unfoldable pub authorization : Rule (Option (List ℕ))
authorization = optional (fixed_at fixed.Authorization) (λ _. name)

-- no word that isn't supported
abbrev pub unbarred : {S : Type 0} → S → Lexeme → Option Barred
unbarred s t = None

unfoldable pub xml_of : Lexeme → Option Barred
xml_of t = if is_fixed fixed.WellFormedXml t then Some barreds.WellFormedXml else (if is_fixed fixed.ValidXml t then Some barreds.ValidXml else None)

unfoldable pub empty_of : Lexeme → Option Bool
empty_of t = if is_fixed fixed.Nothing t then Some false else (if is_fixed fixed.Empty t then Some true else None)

abbrev pub empty : Rule Bool
empty = barred xml_of (token empty_of (example fixed.Nothing) false) Any

-- whether a message type has no body; without the part it may have one
unfoldable pub validation : Rule Bool
validation = alt (fixed_at fixed.Validation) (λ _. word fixed.Equals empty) (pure false) (λ follow. head (fixed_at fixed.Validation) follow ≡ None)

abbrev pub message_def : List ℕ → Bool → Statement
message_def n empty = s.Define (ddl.MessageType (record { name = n; empty = empty }))

unfoldable pub message : Rule Statement
message = word fixed.Type (bind name (λ n. bind authorization (λ _. map_rule (message_def n) validation) Stops) Stops)

unfoldable pub sender_of : Lexeme → Option Sender
sender_of t =
    if is_fixed fixed.Initiator t then Some senders.Initiator
    else (if is_fixed fixed.Target t then Some senders.Target
    else (if is_fixed fixed.Any t then Some senders.Any else None))

abbrev pub sender : Rule Sender
sender = token sender_of (example fixed.Any) senders.Any

abbrev pub sent_of : List ℕ → Sender → SentBy
sent_of n by = record { kind = n; by = by }

unfoldable pub sent_by : Rule SentBy
sent_by = bind name (λ n. also (phrase (fixed.Sent ∷ fixed.By ∷ [])) (map_rule (sent_of n) sender)) Any

abbrev pub contract_def : List ℕ → List SentBy → Statement
contract_def n types = s.Define (ddl.Contract (record { name = n; types = types }))

unfoldable pub contract : Rule Statement
contract = bind name (λ n. bind authorization (λ _. word fixed.Open (ended (map_rule (contract_def n) (commas sent_by)) (sign fixed.Close))) Any) Any

-- ---- queues

unfoldable pub retention_of : Lexeme → Option Barred
retention_of t = if is_fixed fixed.On t then Some barreds.On else None

abbrev pub is_false : Bool → Bool
is_false b = not b

-- what an activation runs as, which says nothing
abbrev pub run_as_by : TokenKind → Option (Unit {0})
run_as_by tokens.Text = Some tt
run_as_by _ = None

unfoldable pub run_as_of : Lexeme → Option (Unit {0})
run_as_of t = if is_fixed fixed.Itself t then Some tt else (if is_fixed fixed.Owner t then Some tt else run_as_by t.kind)

abbrev pub run_as : Rule (Unit {0})
run_as = token run_as_of (example fixed.Itself) tt

abbrev pub retention : Rule (Unit {0})
retention = barred retention_of (sign fixed.Off) Any

-- by what is not yet written
unfoldable pub activation_take : Bool → Bool → Bool → Bool → Lexeme → Option ActivationOption
activation_take procedure readers status execute t =
    if is_fixed fixed.Status t && status then Some activation_option.Status
    else (if is_fixed fixed.ProcedureName t && procedure then Some activation_option.Procedure
    else (if is_fixed fixed.MaxQueueReaders t && readers then Some activation_option.Readers
    else (if is_fixed fixed.Execute t && execute then Some activation_option.Execute else None)))

abbrev pub activation_next : Bool → Bool → Bool → Bool → Option ActivationOption
activation_next procedure readers status execute =
    if procedure then Some activation_option.Procedure
    else (if readers then Some activation_option.Readers
    else (if status then Some activation_option.Status
    else (if execute then Some activation_option.Execute else None)))

abbrev pub activation_example : ActivationOption → Lexeme
activation_example activation_option.Status = example fixed.Status
activation_example activation_option.Procedure = example fixed.ProcedureName
activation_example activation_option.Readers = example fixed.MaxQueueReaders
activation_example activation_option.Execute = example fixed.Execute

abbrev pub activation_status : ActivationOptions → Bool → ActivationOptions
activation_status q b = record q { status = Some b }

abbrev pub activation_procedure : ActivationOptions → List ℕ → ActivationOptions
activation_procedure q n = record q { procedure = Some n }

abbrev pub activation_readers : ActivationOptions → ℤ → ActivationOptions
activation_readers q n = record q { readers = Some n }

abbrev pub activation_execute : ActivationOptions → Unit {0} → ActivationOptions
activation_execute q _ = record q { execute = true }

unfoldable pub activation_value : ActivationOptions → ActivationOption → Rule ActivationOptions
activation_value q activation_option.Status = word fixed.Equals (map_rule (activation_status q) on_off)
activation_value q activation_option.Procedure = word fixed.Equals (map_rule (activation_procedure q) qname)
activation_value q activation_option.Readers = word fixed.Equals (map_rule (activation_readers q) number)
activation_value q activation_option.Execute = word fixed.As (map_rule (activation_execute q) run_as)

-- An activation needs its procedure and its limit of readers.
abbrev pub activation_choices : Choices ActivationOptions ActivationOption
activation_choices = record {
  bars = unbarred;
  take = λ q. activation_take (is_none q.procedure) (is_none q.readers) (is_none q.status) (not q.execute);
  value = activation_value;
  next = λ q. activation_next (is_none q.procedure) (is_none q.readers) (is_none q.status) (not q.execute);
  needs = λ q. if is_none q.procedure then true else is_none q.readers;
  example = activation_example;
  Ends = Any;
}

abbrev pub no_activation : ActivationOptions
no_activation = record { status = None; procedure = None; readers = None; execute = false }

abbrev pub activation_by : Option (List ℕ) → Option ℤ → Bool → Option Activation
activation_by (Some p) (Some r) on = Some (record { on = on; procedure = p; readers = r })
activation_by (Some p) None on = None
activation_by None readers on = None

abbrev pub activation_of : ActivationOptions → Option Activation
activation_of q = activation_by q.procedure q.readers (unwrap_or q.status true)

unfoldable pub activation : Rule (Option Activation)
activation = word fixed.Open (ended (map_rule activation_of (options activation_choices 3 no_activation)) (sign fixed.Close))

unfoldable pub queue_take : Bool → Bool → Bool → Bool → Lexeme → Option QueueOption
queue_take status retention activation poison t =
    if is_fixed fixed.Status t && status then Some queue_option.Status
    else (if is_fixed fixed.Retention t && retention then Some queue_option.Retention
    else (if is_fixed fixed.Activation t && activation then Some queue_option.Activation
    else (if is_fixed fixed.PoisonMessageHandling t && poison then Some queue_option.Poison else None)))

abbrev pub queue_next : Bool → Bool → Bool → Bool → Option QueueOption
queue_next status retention activation poison =
    if status then Some queue_option.Status
    else (if retention then Some queue_option.Retention
    else (if activation then Some queue_option.Activation
    else (if poison then Some queue_option.Poison else None)))

abbrev pub queue_example : QueueOption → Lexeme
queue_example queue_option.Status = example fixed.Status
queue_example queue_option.Retention = example fixed.Retention
queue_example queue_option.Activation = example fixed.Activation
queue_example queue_option.Poison = example fixed.PoisonMessageHandling

abbrev pub queue_status : QueueOptions → Bool → QueueOptions
queue_status q b = record q { status = Some b }

abbrev pub queue_retention : QueueOptions → Unit {0} → QueueOptions
queue_retention q _ = record q { retention = true }

abbrev pub queue_activation : QueueOptions → Option Activation → QueueOptions
queue_activation q a = record q { activation = Some a }

abbrev pub queue_poison : QueueOptions → Bool → QueueOptions
queue_poison q b = record q { poison = Some b }

unfoldable pub queue_value : QueueOptions → QueueOption → Rule QueueOptions
queue_value q queue_option.Status = word fixed.Equals (map_rule (queue_status q) on_off)
queue_value q queue_option.Retention = word fixed.Equals (map_rule (queue_retention q) retention)
queue_value q queue_option.Activation = map_rule (queue_activation q) activation
queue_value q queue_option.Poison = also (phrase (fixed.Open ∷ fixed.Status ∷ fixed.Equals ∷ [])) (ended (map_rule (queue_poison q) on_off) (sign fixed.Close))

abbrev pub never : {S : Type 0} → S → Bool
never s = false

abbrev pub queue_choices : Choices QueueOptions QueueOption
queue_choices = record {
  bars = unbarred;
  take = λ q. queue_take (is_none q.status) (not q.retention) (is_none q.activation) (is_none q.poison);
  value = queue_value;
  next = λ q. queue_next (is_none q.status) (not q.retention) (is_none q.activation) (is_none q.poison);
  needs = never;
  example = queue_example;
  Ends = Any;
}

abbrev pub no_queue_options : QueueOptions
no_queue_options = record { status = None; retention = false; activation = None; poison = None }

abbrev pub queue_def : List ℕ → QueueOptions → Statement
queue_def n q = s.Define (ddl.Queue (record { name = n; on = unwrap_or q.status true; poison = unwrap_or q.poison true; activation = unwrap_or q.activation None }))

unfoldable pub queue_options : Rule QueueOptions
queue_options = alt (fixed_at fixed.With) (λ _. options queue_choices 3 no_queue_options) (pure no_queue_options) Stops

unfoldable pub queue : Rule Statement
queue = bind qname (λ n. map_rule (queue_def n) queue_options) Stops

-- ---- services, routes, priorities, tables

abbrev pub service_def : List ℕ → List ℕ → List (List ℕ) → Statement
service_def n q contracts = s.Define (ddl.Service (record { name = n; queue = q; contracts = contracts }))

unfoldable pub contracts_part : Rule (List (List ℕ))
contracts_part = alt (fixed_at fixed.Open) (λ _. ended (commas name) (sign fixed.Close)) (pure []) Stops

unfoldable pub service : Rule Statement
service = bind name (λ n. bind authorization (λ _. also (phrase (fixed.On ∷ fixed.Queue ∷ [])) (bind qname (λ q. map_rule (service_def n q) contracts_part) Stops)) Stops) Stops

unfoldable pub route_bars : RouteOptions → Lexeme → Option Barred
route_bars q t = if is_fixed fixed.Lifetime t then Some barreds.Lifetime else (if is_fixed fixed.MirrorAddress t then Some barreds.MirrorAddress else None)

unfoldable pub route_take : Bool → Bool → Bool → Lexeme → Option RouteOption
route_take address service instance t =
    if is_fixed fixed.ServiceName t && service then Some route_option.Service
    else (if is_fixed fixed.BrokerInstance t && instance then Some route_option.Instance
    else (if is_fixed fixed.Address t && address then Some route_option.Address else None))

abbrev pub route_next : Bool → Bool → Bool → Option RouteOption
route_next address service instance =
    if address then Some route_option.Address
    else (if service then Some route_option.Service
    else (if instance then Some route_option.Instance else None))

abbrev pub route_example : RouteOption → Lexeme
route_example route_option.Service = example fixed.ServiceName
route_example route_option.Instance = example fixed.BrokerInstance
route_example route_option.Address = example fixed.Address

abbrev pub host_of : List ℕ → Option (Option Who)
host_of host = if bytes_eq host (codes "A:") then Some (Some who.A) else (if bytes_eq host (codes "B:") then Some (Some who.B) else None)

abbrev pub is_port : List ℕ → Bool
is_port port = nat_lt 0 (length port) && list_all is_ascii_digit port

-- `TCP://A:port` or `TCP://B:port`
abbrev pub tcp_host : List ℕ → Option (Option Who)
tcp_host value = if str_eq_ignore_ascii_case (take 6 value) (codes "TCP://") && is_port (drop 8 value) then host_of (take 2 (drop 6 value)) else None

-- `LOCAL`, or such a host
abbrev pub address_by : List ℕ → Option (Option Who)
address_by value = if bytes_eq value (codes "LOCAL") then Some None else tcp_host value

abbrev pub address_value : TokenKind → List ℕ → Option (Option Who)
address_value tokens.Text value = address_by value
address_value _ value = None

unfoldable pub address_of : Lexeme → Option (Option Who)
address_of t = address_value t.kind t.value

abbrev pub transport_value : TokenKind → List ℕ → Option Barred
transport_value tokens.Text value = if bytes_eq value (codes "TRANSPORT") then Some barreds.Transport else None
transport_value _ value = None

unfoldable pub transport_of : Lexeme → Option Barred
transport_of t = transport_value t.kind t.value

abbrev pub example_address : Lexeme
example_address = record { kind = tokens.Text; value = codes "LOCAL"; start = 0; end = 0 }

abbrev pub handle_value : TokenKind → List ℕ → Option Handle
handle_value tokens.Text value = handle_by value
handle_value _ value = None

-- a text that is a handle's spelling
unfoldable pub handle_of : Lexeme → Option Handle
handle_of t = handle_value t.kind t.value

abbrev pub example_handle : Lexeme
example_handle = record { kind = tokens.Text; value = codes "00000000-0000-0000-0000-000000000000"; start = 0; end = 0 }

abbrev pub zero_handle : Handle
zero_handle = record { 0 = 0 }

abbrev pub handle : Rule Handle
handle = token handle_of example_handle zero_handle

abbrev pub address : Rule (Option Who)
address = barred transport_of (token address_of example_address None) Any

abbrev pub route_service : RouteOptions → List ℕ → RouteOptions
route_service q n = record q { service = Some n }

abbrev pub route_instance : RouteOptions → Handle → RouteOptions
route_instance q h = record q { instance = Some h }

abbrev pub route_address : RouteOptions → Option Who → RouteOptions
route_address q to = record q { address = Some to }

unfoldable pub route_value : RouteOptions → RouteOption → Rule RouteOptions
route_value q route_option.Service = word fixed.Equals (map_rule (route_service q) text)
route_value q route_option.Instance = word fixed.Equals (map_rule (route_instance q) handle)
route_value q route_option.Address = word fixed.Equals (map_rule (route_address q) address)

-- A route needs its address.
abbrev pub route_choices : Choices RouteOptions RouteOption
route_choices = record {
  bars = route_bars;
  take = λ q. route_take (is_none q.address) (is_none q.service) (is_none q.instance);
  value = route_value;
  next = λ q. route_next (is_none q.address) (is_none q.service) (is_none q.instance);
  needs = λ q. is_none q.address;
  example = route_example;
  Ends = Any;
}

abbrev pub no_route_options : RouteOptions
no_route_options = record { service = None; instance = None; address = None }

abbrev pub route_def : List ℕ → RouteOptions → Statement
route_def n q = s.Define (ddl.Route (record { name = n; service = q.service; instance = q.instance; to = unwrap_or q.address None }))

unfoldable pub route : Rule Statement
route = bind name (λ n. bind authorization (λ _. word fixed.With (map_rule (route_def n) (options route_choices 2 no_route_options))) Stops) Stops

unfoldable pub priority_take : Bool → Bool → Bool → Bool → Lexeme → Option PriorityOption
priority_take contract local remote level t =
    if is_fixed fixed.ContractName t && contract then Some priority_option.Contract
    else (if is_fixed fixed.LocalServiceName t && local then Some priority_option.Local
    else (if is_fixed fixed.RemoteServiceName t && remote then Some priority_option.Remote
    else (if is_fixed fixed.PriorityLevel t && level then Some priority_option.Level else None)))

abbrev pub priority_next : Bool → Bool → Bool → Bool → Option PriorityOption
priority_next contract local remote level =
    if contract then Some priority_option.Contract
    else (if local then Some priority_option.Local
    else (if remote then Some priority_option.Remote
    else (if level then Some priority_option.Level else None)))

abbrev pub priority_example : PriorityOption → Lexeme
priority_example priority_option.Contract = example fixed.ContractName
priority_example priority_option.Local = example fixed.LocalServiceName
priority_example priority_option.Remote = example fixed.RemoteServiceName
priority_example priority_option.Level = example fixed.PriorityLevel

abbrev pub some_text : List ℕ → Option (List ℕ)
some_text v = Some v

-- a name or ANY
unfoldable pub any_name_of : Lexeme → Option (Option (List ℕ))
any_name_of t = if is_fixed fixed.Any t then Some None else option_map some_text (name_of t)

-- a text or ANY
unfoldable pub any_text_of : Lexeme → Option (Option (List ℕ))
any_text_of t = if is_fixed fixed.Any t then Some None else option_map some_text (text_of t)

-- a level or DEFAULT
unfoldable pub level_of : Lexeme → Option ℤ
level_of t = if is_fixed fixed.Default t then Some (pos 5) else number_of t

abbrev pub any_name : Rule (Option (List ℕ))
any_name = token any_name_of (example fixed.Any) None

abbrev pub any_text : Rule (Option (List ℕ))
any_text = token any_text_of (example fixed.Any) None

abbrev pub level : Rule ℤ
level = token level_of (example fixed.Default) (pos 5)

abbrev pub priority_contract : PriorityOptions → Option (List ℕ) → PriorityOptions
priority_contract q n = record q { contract = Some n }

abbrev pub priority_local : PriorityOptions → Option (List ℕ) → PriorityOptions
priority_local q n = record q { local = Some n }

abbrev pub priority_remote : PriorityOptions → Option (List ℕ) → PriorityOptions
priority_remote q n = record q { remote = Some n }

abbrev pub priority_level : PriorityOptions → ℤ → PriorityOptions
priority_level q n = record q { level = Some n }

unfoldable pub priority_value : PriorityOptions → PriorityOption → Rule PriorityOptions
priority_value q priority_option.Contract = word fixed.Equals (map_rule (priority_contract q) any_name)
priority_value q priority_option.Local = word fixed.Equals (map_rule (priority_local q) any_name)
priority_value q priority_option.Remote = word fixed.Equals (map_rule (priority_remote q) any_text)
priority_value q priority_option.Level = word fixed.Equals (map_rule (priority_level q) level)

abbrev pub priority_choices : Choices PriorityOptions PriorityOption
priority_choices = record {
  bars = unbarred;
  take = λ q. priority_take (is_none q.contract) (is_none q.local) (is_none q.remote) (is_none q.level);
  value = priority_value;
  next = λ q. priority_next (is_none q.contract) (is_none q.local) (is_none q.remote) (is_none q.level);
  needs = never;
  example = priority_example;
  Ends = Any;
}

abbrev pub no_priority_options : PriorityOptions
no_priority_options = record { contract = None; local = None; remote = None; level = None }

-- without a part ANY, and the level 5
abbrev pub priority_def : List ℕ → PriorityOptions → Statement
priority_def n q =
    s.Define (ddl.Priority (record { name = n; contract = unwrap_or q.contract None; local = unwrap_or q.local None; remote = unwrap_or q.remote None; level = unwrap_or q.level (pos 5) }))

unfoldable pub priority_options : Rule PriorityOptions
priority_options = alt (fixed_at fixed.Set) (λ _. word fixed.Open (ended (options priority_choices 3 no_priority_options) (sign fixed.Close))) (pure no_priority_options) Stops

unfoldable pub priority : Rule Statement
priority = word fixed.Priority (bind name (λ n. also (phrase (fixed.For ∷ fixed.Conversation ∷ [])) (map_rule (priority_def n) priority_options)) Stops)

abbrev pub table_def : List ℕ → Unit {0} → Statement
table_def n _ = s.Define (ddl.Table (record { name = n }))

abbrev pub table_columns : List Fixed
table_columns =
    fixed.Open ∷ fixed.Id ∷ fixed.BigInt ∷ fixed.Primary ∷ fixed.Key ∷ fixed.Comma ∷ fixed.N ∷ fixed.BigInt ∷ fixed.Comma
    ∷ fixed.Body ∷ fixed.NVarChar ∷ fixed.Open ∷ fixed.Max ∷ fixed.Close ∷ fixed.Close ∷ []

unfoldable pub table : Rule Statement
table = bind qname (λ n. map_rule (table_def n) (phrase table_columns)) Any

-- ---- CREATE

unfoldable pub made_of : Lexeme → Option Made
made_of t =
    if is_fixed fixed.Message t then Some made.Message
    else (if is_fixed fixed.Contract t then Some made.Contract
    else (if is_fixed fixed.Queue t then Some made.Queue
    else (if is_fixed fixed.Service t then Some made.Service
    else (if is_fixed fixed.Route t then Some made.Route
    else (if is_fixed fixed.Broker t then Some made.Broker
    else (if is_fixed fixed.Table t then Some made.Table else None))))))

abbrev pub made_by : Made → Rule Statement
made_by made.Message = message
made_by made.Contract = contract
made_by made.Queue = queue
made_by made.Service = service
made_by made.Route = route
made_by made.Broker = priority
made_by made.Table = table

-- behind CREATE
unfoldable pub create_rest : Rule Statement
create_rest = bind (token made_of (example fixed.Table) made.Table) made_by Stops

abbrev pub alter_queue : List ℕ → Bool → Statement
alter_queue n on = s.AlterQueue n on

-- behind ALTER
unfoldable pub alter_rest : Rule Statement
alter_rest = word fixed.Queue (bind qname (λ n. also (phrase (fixed.With ∷ fixed.Status ∷ fixed.Equals ∷ [])) (map_rule (alter_queue n) on_off)) Any)
