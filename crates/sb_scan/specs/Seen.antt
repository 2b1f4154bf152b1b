-- What this crate's views into a log stand for.
use Rattle.std.specs.Prelude.{ℕ, zero, suc, List, [], ◌∷◌, Result, Ok, Err}
use Rattle.sb_log.specs.declared.messages.Content.{Content}
use Rattle.sb_log.specs.declared.messages.Content.TheVariants as content
use Rattle.sb_log.specs.declared.definitions.ContractDef.{ContractDef}
use Rattle.sb_log.specs.declared.definitions.MessageDef.{MessageDef}
use Rattle.sb_log.specs.declared.definitions.RouteDef.{RouteDef}
use Rattle.sb_scan.specs.declared.routing.SeenRoute.{SeenRoute}
use Rattle.sb_scan.specs.declared.routing.SeenRoute.TheVariants as routes
use Rattle.sb_model.specs.Sides.{Making}
use Rattle.sb_model.specs.Catalog.{auto_route, default_contract, default_type}
use Rattle.sb_scan.specs.declared.catalog.SeenContract.{SeenContract}
use Rattle.sb_scan.specs.declared.catalog.SeenContract.TheVariants as contracts
use Rattle.sb_scan.specs.declared.catalog.SeenType.{SeenType}
use Rattle.sb_scan.specs.declared.catalog.SeenType.TheVariants as types
use Rattle.sb_scan.specs.declared.making.MadeSide.{MadeSide}
use Rattle.sb_scan.specs.declared.sent.SeenContent.{SeenContent}
use Rattle.sb_scan.specs.declared.sent.SeenContent.TheVariants as seen

-- the making that a view of a side shows
abbrev pub making_of : MadeSide → Making
making_of m = record { side = m.side; handle = m.handle; group = m.group; header = m.header.now }

-- the content that a view shows
abbrev pub content_seen : SeenContent → Content
content_seen (seen.App kind body) = content.App kind.now body.now
content_seen seen.EndDialog = content.EndDialog
content_seen (seen.Error code text) = content.Error code text.now

-- the n-th of a list, or how many more to pass by than it has
abbrev pub nth_or_left : {A : Type 0} → List A → ℕ → Result A ℕ
nth_or_left [] n = Err n
nth_or_left (x ∷ xs) zero = Ok x
nth_or_left (x ∷ xs) (suc n) = nth_or_left xs n

abbrev pub reached : Result SeenContent ℕ → Result Content ℕ
reached (Ok message) = Ok (content_seen message)
reached (Err left) = Err left

abbrev pub type_seen : SeenType → MessageDef
type_seen types.BuiltIn = default_type
type_seen (types.Defined def) = def.now

abbrev pub contract_seen : SeenContract → ContractDef
contract_seen contracts.BuiltIn = default_contract
contract_seen (contracts.Defined def) = def.now

abbrev pub route_seen : SeenRoute → RouteDef
route_seen routes.BuiltIn = auto_route
route_seen (routes.Defined def) = def.now
