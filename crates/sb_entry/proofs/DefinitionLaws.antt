-- Definitions are read exactly.
use Rattle.std.proofs.Common.{◌≡◌, ℕ, ℤ, pos, negsuc, zero, suc, ◌+◌, ◌^◌, ◌<◌, ◌≤◌, Bool, true, false, cond, eqb, leb, ◌&&◌, List, [], ◌∷◌, ◌++◌, length, Option, Some, None, refl, sym, ap, subst, ◌∙◌, arith, append_assoc, lit<, lit≤}
use Rattle.std.specs.Prelude.{IfSome, FitsSigned, nat_le, nat_abs, ◌==◌, ◌≤ℤ◌, if◌then◌else◌}
use Rattle.std.specs.Int.{w64}
use Rattle.std.specs.List.{flat_map, AllByRecursion}
use Rattle.std.proofs.lemmas.Int.{ints}
use Rattle.std.proofs.lemmas.List.{append-nil}
use Rattle.std.proofs.lemmas.Bool.{eqb-true, eqb-false, leb-true, le-leb}
use Rattle.sb_log.specs.declared.identifiers.Who.{Who}
use Rattle.sb_log.specs.declared.identifiers.Who.TheVariants.{A, B}
use Rattle.sb_log.specs.declared.definitions.Sender.{Sender}
use Rattle.sb_log.specs.declared.definitions.Sender.TheVariants as sender
use Rattle.sb_log.specs.declared.definitions.SentBy.{SentBy}
use Rattle.sb_log.specs.declared.definitions.Activation.{Activation}
use Rattle.sb_log.specs.declared.identifiers.Handle.{Handle}
use Rattle.sb_log.specs.declared.definitions.PriorityDef.{PriorityDef}
use Rattle.sb_log.specs.declared.definitions.Ddl.{Ddl}
use Rattle.sb_log.specs.declared.definitions.Ddl.TheVariants.{MessageType, Contract, Queue, Service, Route, Priority, Table, Procedure}
use Rattle.sb_fields.specs.Spelling.{Bytes, number, text16, bytes32, flag, optional}
use Rattle.sb_fields.specs.Reading.{Reading, read_then, give, number_at, flag_at, optional_at, list_at}
use Rattle.sb_fields.proofs.Readings.{ReadsOnly, ReadsAgain, ReadsExactly, then_again, give_again, again_is, then_exactly, give_only, if_only, number_read, flag_read, optional_read, list_read}
use Rattle.sb_model.specs.Spelling.{handle_bytes, sender_number, sent_by_bytes, activation_bytes, place_number, definition_bytes}
use Rattle.sb_model.specs.Reading.{name_at, message_type_at, sender_of, sent_by_at, contract_at, activation_at, queue_at, service_at, place_of, route_at, priority_at, table_at, procedure_at, definition_of, definition_at}
use Rattle.sb_entry.specs.Values.{IsHandle, IsNameText, IsLongText, IsSentBy, IsBetween, IsActivation, IsDefinition}
use Rattle.sb_entry.proofs.MessageLaws.{name_read, long_text_read, handle_read, Between, byte_read, Behind, at_kind}

-- ---- numbers for values

number_of-sender : (n : ℕ) → Between 1 3 n → n ≡ sender_number (sender_of n)
number_of-sender zero f = absurd (omega (arith, f.0))
number_of-sender (suc zero) f = refl
number_of-sender (suc (suc zero)) f = refl
number_of-sender (suc (suc (suc zero))) f = refl
number_of-sender (suc (suc (suc (suc n)))) f = absurd (omega (arith, f.1))

sender_again : (s : Sender) → Between 1 3 (sender_number s) × (sender_of (sender_number s) ≡ s)
sender_again sender.Initiator = ((lit≤ tt, lit≤ tt), refl)
sender_again sender.Target = ((lit≤ tt, lit≤ tt), refl)
sender_again sender.Any = ((lit≤ tt, lit≤ tt), refl)

number_of-place : (n : ℕ) → Between 0 2 n → n ≡ place_number (place_of n)
number_of-place zero f = refl
number_of-place (suc zero) f = refl
number_of-place (suc (suc zero)) f = refl
number_of-place (suc (suc (suc n))) f = absurd (omega (arith, f.1))

place_again : (p : Option Who) → Between 0 2 (place_number p) × (place_of (place_number p) ≡ p)
place_again None = ((lit≤ tt, lit≤ tt), refl)
place_again (Some A) = ((lit≤ tt, lit≤ tt), refl)
place_again (Some B) = ((lit≤ tt, lit≤ tt), refl)

number_of-empty : (n : ℕ) → Between 1 2 n → n ≡ (if n == 2 then 2 else 1)
number_of-empty zero f = absurd (omega (arith, f.0))
number_of-empty (suc zero) f = refl
number_of-empty (suc (suc zero)) f = refl
number_of-empty (suc (suc (suc n))) f = absurd (omega (arith, f.1))

empty_again : (b : Bool) → Between 1 2 (if b then 2 else 1) × (((if b then 2 else 1) == 2) ≡ b)
empty_again true = ((lit≤ tt, lit≤ tt), refl)
empty_again false = ((lit≤ tt, lit≤ tt), refl)

-- a number of the range is its own magnitude
magnitude : (least most : ℕ) (z : ℤ) → IsBetween least most z → (pos (nat_abs z) ≡ z) × ((least ≤ nat_abs z) × (nat_abs z ≤ most))
magnitude least most (pos n) f = let low = f.0 in let high = f.1 in (refl, (omega (arith, ints), omega (arith, ints)))
magnitude least most (negsuc n) f = let low = f.0 in absurd (omega (arith, ints))

-- ---- parts of definitions

sent_by_again : (kind : Bytes) (s : Sender) → IsNameText kind → ReadsAgain sent_by_at (sent_by_bytes (record { kind = kind; by = s })) (record { kind = kind; by = s })
unfolding sent_by_bytes sent_by_at
sent_by_again kind sender.Initiator f = again_is sent_by_at (simp append-nil) (then_again _ _ (name_read.reads kind f) (then_again _ _ ((byte_read 1 3 (lit< tt)).reads 1 (lit≤ tt, lit≤ tt)) (give_again _)))
sent_by_again kind sender.Target f = again_is sent_by_at (simp append-nil) (then_again _ _ (name_read.reads kind f) (then_again _ _ ((byte_read 1 3 (lit< tt)).reads 2 (lit≤ tt, lit≤ tt)) (give_again _)))
sent_by_again kind sender.Any f = again_is sent_by_at (simp append-nil) (then_again _ _ (name_read.reads kind f) (then_again _ _ ((byte_read 1 3 (lit< tt)).reads 3 (lit≤ tt, lit≤ tt)) (give_again _)))

sent_by_text : (kind : Bytes) (n : ℕ) → Between 1 3 n → text16 kind ++ (number 1 n ++ []) ≡ sent_by_bytes (record { kind = kind; by = sender_of n })
unfolding sent_by_bytes
sent_by_text kind n f = ap (λ (t : List ℕ). text16 kind ++ t) (append-nil (number 1 n)) ∙ ap (λ (k : ℕ). text16 kind ++ number 1 k) (number_of-sender n f)

sent_by_read : ReadsExactly sent_by_bytes sent_by_at IsSentBy
unfolding sent_by_at
sent_by_read = record {
  reads = λ s f. sent_by_again s.kind s.by f;
  spelled = then_exactly _ name_read (λ k fk. then_exactly _ (byte_read 1 3 (lit< tt)) (λ n fn. give_only _ (sent_by_text k n fn, fk)));
}

activation_again : (a : Activation) → IsActivation a → ReadsAgain activation_at (activation_bytes a) a
unfolding activation_bytes activation_at
activation_again a f =
    let m = magnitude 0 65535 a.readers f.1 in
    subst (λ (z : ℤ). ReadsAgain activation_at (flag a.on ++ text16 a.procedure ++ number 2 (nat_abs a.readers)) (record { on = a.on; procedure = a.procedure; readers = z })) m.0
    (again_is activation_at (simp (append-nil, append_assoc)) (then_again _ _ (flag_read.reads a.on tt) (then_again _ _ (name_read.reads a.procedure f.0) (then_again _ _ ((number_read 2).reads (nat_abs a.readers) (let u = m.1.1 in omega arith)) (give_again _)))))

within : (least most n : ℕ) → least ≤ n → n ≤ most → IsBetween least most (pos n)
within least most n low high = (omega (arith, ints), omega (arith, ints))

activation_read : ReadsExactly activation_bytes activation_at IsActivation
unfolding activation_bytes activation_at
activation_read = record {
  reads = activation_again;
  spelled = then_exactly _ flag_read (λ o fo. then_exactly _ name_read (λ p fp. then_exactly _ (number_read 2) (λ r fr. give_only _ (simp (append-nil, append_assoc), (fp, within 0 65535 r (omega arith) (omega (arith, fr)))))));
}

-- ---- definitions

message_again : (name : Bytes) (b : Bool) → IsNameText name → ReadsAgain definition_at (definition_bytes (MessageType (record { name = name; empty = b }))) (MessageType (record { name = name; empty = b }))
unfolding definition_bytes definition_at message_type_at
message_again name true f = again_is definition_at (simp (append-nil, append_assoc)) (then_again _ _ ((byte_read 1 8 (lit< tt)).reads 1 (lit≤ tt, lit≤ tt)) (then_again _ _ (name_read.reads name f) (then_again _ _ ((byte_read 1 2 (lit< tt)).reads 2 (lit≤ tt, lit≤ tt)) (give_again _))))
message_again name false f = again_is definition_at (simp (append-nil, append_assoc)) (then_again _ _ ((byte_read 1 8 (lit< tt)).reads 1 (lit≤ tt, lit≤ tt)) (then_again _ _ (name_read.reads name f) (then_again _ _ ((byte_read 1 2 (lit< tt)).reads 1 (lit≤ tt, lit≤ tt)) (give_again _))))

route_again : (name : Bytes) (service : Option Bytes) (instance : Option Handle) (p : Option Who) → IsNameText name → IfSome service IsNameText → IfSome instance IsHandle
    → ReadsAgain definition_at (definition_bytes (Route (record { name = name; service = service; instance = instance; to = p }))) (Route (record { name = name; service = service; instance = instance; to = p }))
unfolding definition_bytes definition_at route_at
route_again name service instance None f fs fi = again_is definition_at (simp (append-nil, append_assoc)) (then_again _ _ ((byte_read 1 8 (lit< tt)).reads 5 (lit≤ tt, lit≤ tt)) (then_again _ _ (name_read.reads name f) (then_again _ _ ((optional_read name_read).reads service fs) (then_again _ _ ((optional_read handle_read).reads instance fi) (then_again _ _ ((byte_read 0 2 (lit< tt)).reads 0 (lit≤ tt, lit≤ tt)) (give_again _))))))
route_again name service instance (Some A) f fs fi = again_is definition_at (simp (append-nil, append_assoc)) (then_again _ _ ((byte_read 1 8 (lit< tt)).reads 5 (lit≤ tt, lit≤ tt)) (then_again _ _ (name_read.reads name f) (then_again _ _ ((optional_read name_read).reads service fs) (then_again _ _ ((optional_read handle_read).reads instance fi) (then_again _ _ ((byte_read 0 2 (lit< tt)).reads 1 (lit≤ tt, lit≤ tt)) (give_again _))))))
route_again name service instance (Some B) f fs fi = again_is definition_at (simp (append-nil, append_assoc)) (then_again _ _ ((byte_read 1 8 (lit< tt)).reads 5 (lit≤ tt, lit≤ tt)) (then_again _ _ (name_read.reads name f) (then_again _ _ ((optional_read name_read).reads service fs) (then_again _ _ ((optional_read handle_read).reads instance fi) (then_again _ _ ((byte_read 0 2 (lit< tt)).reads 2 (lit≤ tt, lit≤ tt)) (give_again _))))))

priority_again : (d : PriorityDef) → IsDefinition (Priority d) → ReadsAgain definition_at (definition_bytes (Priority d)) (Priority d)
unfolding definition_bytes definition_at priority_at
priority_again d f =
    let m = magnitude 1 10 d.level f.4 in
    subst (λ (z : ℤ). ReadsAgain definition_at (number 1 6 ++ text16 d.name ++ optional text16 d.contract ++ optional text16 d.local ++ optional text16 d.remote ++ number 1 (nat_abs d.level)) (Priority (record { name = d.name; contract = d.contract; local = d.local; remote = d.remote; level = z }))) m.0
    (again_is definition_at (simp (append-nil, append_assoc)) (then_again _ _ ((byte_read 1 8 (lit< tt)).reads 6 (lit≤ tt, lit≤ tt)) (then_again _ _ (name_read.reads d.name f.0) (then_again _ _ ((optional_read name_read).reads d.contract f.1) (then_again _ _ ((optional_read name_read).reads d.local f.2) (then_again _ _ ((optional_read name_read).reads d.remote f.3) (then_again _ _ ((byte_read 1 10 (lit< tt)).reads (nat_abs d.level) m.1) (give_again _))))))))

ddl_again : (x : Ddl) → IsDefinition x → ReadsAgain definition_at (definition_bytes x) x
unfolding definition_bytes definition_at contract_at queue_at service_at table_at procedure_at
ddl_again (MessageType d) f = message_again d.name d.empty f
ddl_again (Contract d) f = again_is definition_at (simp (append-nil, append_assoc)) (then_again _ _ ((byte_read 1 8 (lit< tt)).reads 2 (lit≤ tt, lit≤ tt)) (then_again _ _ (name_read.reads d.name f.0) (then_again _ _ ((number_read 2).reads (length d.types) f.1) (then_again _ _ ((list_read sent_by_read (length d.types)).reads d.types (refl, f.2)) (give_again _)))))
ddl_again (Queue d) f = again_is definition_at (simp (append-nil, append_assoc)) (then_again _ _ ((byte_read 1 8 (lit< tt)).reads 3 (lit≤ tt, lit≤ tt)) (then_again _ _ (name_read.reads d.name f.0) (then_again _ _ (flag_read.reads d.on tt) (then_again _ _ (flag_read.reads d.poison tt) (then_again _ _ ((optional_read activation_read).reads d.activation f.1) (give_again _))))))
ddl_again (Service d) f = again_is definition_at (simp (append-nil, append_assoc)) (then_again _ _ ((byte_read 1 8 (lit< tt)).reads 4 (lit≤ tt, lit≤ tt)) (then_again _ _ (name_read.reads d.name f.0) (then_again _ _ (name_read.reads d.queue f.1) (then_again _ _ ((number_read 2).reads (length d.contracts) f.2) (then_again _ _ ((list_read name_read (length d.contracts)).reads d.contracts (refl, f.3)) (give_again _))))))
ddl_again (Route d) f = route_again d.name d.service d.instance d.to f.0 f.1 f.2
ddl_again (Priority d) f = priority_again d f
ddl_again (Table d) f = again_is definition_at (simp (append-nil, append_assoc)) (then_again _ _ ((byte_read 1 8 (lit< tt)).reads 7 (lit≤ tt, lit≤ tt)) (then_again _ _ (name_read.reads d.name f) (give_again _)))
ddl_again (Procedure d) f = again_is definition_at (simp (append-nil, append_assoc)) (then_again _ _ ((byte_read 1 8 (lit< tt)).reads 8 (lit≤ tt, lit≤ tt)) (then_again _ _ (name_read.reads d.name f.0) (then_again _ _ (long_text_read.reads d.text f.1) (give_again _))))

message_text : (name : Bytes) (n : ℕ) → Between 1 2 n → number 1 1 ++ (text16 name ++ (number 1 n ++ [])) ≡ definition_bytes (MessageType (record { name = name; empty = n == 2 }))
unfolding definition_bytes
message_text name n f = simp (append-nil, append_assoc) (ap (λ (k : ℕ). number 1 1 ++ (text16 name ++ number 1 k)) (number_of-empty n f))

message_only : ReadsOnly message_type_at (Behind definition_bytes IsDefinition 1)
unfolding message_type_at
message_only = then_exactly _ name_read (λ k fk. then_exactly _ (byte_read 1 2 (lit< tt)) (λ n fn. give_only _ (message_text k n fn, fk)))

contract_text : (name : Bytes) (count : ℕ) (types : List SentBy) → length types ≡ count → number 1 2 ++ (text16 name ++ (number 2 count ++ (flat_map sent_by_bytes types ++ []))) ≡ definition_bytes (Contract (record { name = name; types = types }))
unfolding definition_bytes
contract_text name count types e = rw (← e) (simp (append-nil, append_assoc))

contract_only : ReadsOnly contract_at (Behind definition_bytes IsDefinition 2)
unfolding contract_at
contract_only = then_exactly _ name_read (λ k fk. then_exactly _ (number_read 2) (λ n fn. then_exactly _ (list_read sent_by_read n) (λ ts fts. give_only _ (contract_text k n ts fts.0, (fk, (let l = fts.0 in omega (arith, fn)), fts.1)))))

queue_only : ReadsOnly queue_at (Behind definition_bytes IsDefinition 3)
unfolding definition_bytes queue_at
queue_only = then_exactly _ name_read (λ k fk. then_exactly _ flag_read (λ o fo. then_exactly _ flag_read (λ p fp. then_exactly _ (optional_read activation_read) (λ a fa. give_only _ (simp (append-nil, append_assoc), (fk, fa))))))

service_text : (name queue : Bytes) (count : ℕ) (contracts : List Bytes) → length contracts ≡ count → number 1 4 ++ (text16 name ++ (text16 queue ++ (number 2 count ++ (flat_map text16 contracts ++ [])))) ≡ definition_bytes (Service (record { name = name; queue = queue; contracts = contracts }))
unfolding definition_bytes
service_text name queue count contracts e = rw (← e) (simp (append-nil, append_assoc))

service_only : ReadsOnly service_at (Behind definition_bytes IsDefinition 4)
unfolding service_at
service_only = then_exactly _ name_read (λ k fk. then_exactly _ name_read (λ q fq. then_exactly _ (number_read 2) (λ n fn. then_exactly _ (list_read name_read n) (λ cs fcs. give_only _ (service_text k q n cs fcs.0, (fk, fq, (let l = fcs.0 in omega (arith, fn)), fcs.1))))))

route_text : (name : Bytes) (service : Option Bytes) (instance : Option Handle) (n : ℕ) → Between 0 2 n → number 1 5 ++ (text16 name ++ (optional text16 service ++ (optional handle_bytes instance ++ (number 1 n ++ [])))) ≡ definition_bytes (Route (record { name = name; service = service; instance = instance; to = place_of n }))
unfolding definition_bytes
route_text name service instance n f = simp (append-nil, append_assoc) (ap (λ (k : ℕ). number 1 5 ++ (text16 name ++ (optional text16 service ++ (optional handle_bytes instance ++ number 1 k)))) (number_of-place n f))

route_only : ReadsOnly route_at (Behind definition_bytes IsDefinition 5)
unfolding route_at
route_only = then_exactly _ name_read (λ k fk. then_exactly _ (optional_read name_read) (λ s fs. then_exactly _ (optional_read handle_read) (λ i fi. then_exactly _ (byte_read 0 2 (lit< tt)) (λ n fn. give_only _ (route_text k s i n fn, (fk, fs, fi))))))

priority_only : ReadsOnly priority_at (Behind definition_bytes IsDefinition 6)
unfolding definition_bytes priority_at
priority_only = then_exactly _ name_read (λ k fk. then_exactly _ (optional_read name_read) (λ c fc. then_exactly _ (optional_read name_read) (λ l fl. then_exactly _ (optional_read name_read) (λ r fr. then_exactly _ (byte_read 1 10 (lit< tt)) (λ n fn.
    let w = within 1 10 n fn.0 fn.1 in give_only _ (simp (append-nil, append_assoc), (fk, fc, fl, fr, w)))))))

table_only : ReadsOnly table_at (Behind definition_bytes IsDefinition 7)
unfolding definition_bytes table_at
table_only = then_exactly _ name_read (λ k fk. give_only _ (simp (append-nil, append_assoc), fk))

procedure_only : ReadsOnly procedure_at (Behind definition_bytes IsDefinition 8)
unfolding definition_bytes procedure_at
procedure_only = then_exactly _ name_read (λ k fk. then_exactly _ long_text_read (λ t ft. give_only _ (simp (append-nil, append_assoc), (fk, ft))))

ddl_only : (kind : ℕ) → Between 1 8 kind → ReadsOnly (definition_of kind) (Behind definition_bytes IsDefinition kind)
ddl_only kind f =
    if_only (eqb kind 1) _ _ (λ e. at_kind definition_bytes IsDefinition _ 1 kind (eqb-true kind 1 e) message_only) (λ n1.
    if_only (eqb kind 2) _ _ (λ e. at_kind definition_bytes IsDefinition _ 2 kind (eqb-true kind 2 e) contract_only) (λ n2.
    if_only (eqb kind 3) _ _ (λ e. at_kind definition_bytes IsDefinition _ 3 kind (eqb-true kind 3 e) queue_only) (λ n3.
    if_only (eqb kind 4) _ _ (λ e. at_kind definition_bytes IsDefinition _ 4 kind (eqb-true kind 4 e) service_only) (λ n4.
    if_only (eqb kind 5) _ _ (λ e. at_kind definition_bytes IsDefinition _ 5 kind (eqb-true kind 5 e) route_only) (λ n5.
    if_only (eqb kind 6) _ _ (λ e. at_kind definition_bytes IsDefinition _ 6 kind (eqb-true kind 6 e) priority_only) (λ n6.
    if_only (eqb kind 7) _ _ (λ e. at_kind definition_bytes IsDefinition _ 7 kind (eqb-true kind 7 e) table_only) (λ n7.
    at_kind definition_bytes IsDefinition _ 8 kind (let a1 = eqb-false kind 1 n1 in let a2 = eqb-false kind 2 n2 in let a3 = eqb-false kind 3 n3 in let a4 = eqb-false kind 4 n4 in let a5 = eqb-false kind 5 n5 in let a6 = eqb-false kind 6 n6 in let a7 = eqb-false kind 7 n7 in omega (arith, f.0, f.1, a1, a2, a3, a4, a5, a6, a7)) procedure_only)))))))

pub ddl_read : ReadsExactly definition_bytes definition_at IsDefinition
unfolding definition_at
ddl_read = record { reads = ddl_again; spelled = then_exactly _ (byte_read 1 8 (lit< tt)) ddl_only }
