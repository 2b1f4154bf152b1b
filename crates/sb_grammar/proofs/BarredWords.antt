-- Words within a statement that aren't supported begin nothing else that may stand there.
use Rattle.std.proofs.Common.{◌≡◌, ℕ, Bool, true, false, List, [], ◌∷◌, Some, None, refl, ap}
use Rattle.std.specs.Prelude.{All, codes, is_none}
use Rattle.std.specs.Str.{bytes_eq}
use Rattle.std.proofs.lemmas.Slice.Eq.{bytes_eq-Decides}
use Rattle.std.proofs.lemmas.List.Elements.{All-cons, All-nil}
use Rattle.sb_lex.specs.declared.token.TokenKind.{TokenKind}
use Rattle.sb_lex.specs.declared.token.TokenKind.TheVariants as tokens
use Rattle.sb_grammar.specs.declared.lexeme.Lexeme.{Lexeme}
use Rattle.sb_grammar.specs.declared.choice.Barred.{Barred}
use Rattle.sb_grammar.specs.declared.choice.Barred.TheVariants as barreds
use Rattle.sb_grammar.specs.declared.choice.RouteOption.{RouteOption}
use Rattle.sb_grammar.specs.declared.choice.RouteOptions.{RouteOptions}
use Rattle.sb_grammar.specs.declared.word.Fixed.{Fixed}
use Rattle.sb_grammar.specs.declared.word.Fixed.TheVariants as fixed
use Rattle.sb_grammar.specs.Words.{is_fixed, fixed_at, example}
use Rattle.sb_grammar.specs.Rules.{token}
use Rattle.sb_grammar.specs.Values.{sign, word}
use Rattle.sb_grammar.specs.Exprs.{sum}
use Rattle.sb_grammar.specs.Definitions.{xml_of, empty_of, retention_of, transport_of, transport_value, address_of, address_value, address_by, example_address, route_bars, route_take, route_choices}
use Rattle.sb_grammar.specs.Dialogs.{encryption_bars, end_tail, filter}
use Rattle.sb_grammar.specs.Stops.{into_of}
use Rattle.sb_grammar.specs.Statements.{inner_first, first_of, any_turn, any_statement, rest_of}
use Rattle.sb_grammar.specs.Choices.{BeginsNot, written}
use Rattle.sb_grammar.proofs.Words.{alike, AllOff, off, fixed_none, chain}
use Rattle.sb_grammar.proofs.ChoiceForms.{Excludes, token-not, bind-not, also-not}
use Rattle.sb_grammar.proofs.StatementWords.{Other, all_others, first_words, statement-not, turn-not}

-- ---- VALIDATION

abbrev empty_words : List Fixed
empty_words = fixed.Nothing ∷ fixed.Empty ∷ []

is_xml : (t : Lexeme) (b : Barred) → xml_of t ≡ Some b → Other empty_words t
unfolding xml_of
is_xml t b h =
    chain (is_fixed fixed.WellFormedXml t) barreds.WellFormedXml _ b (λ k. record { word = fixed.WellFormedXml; is = k; apart = refl })
    (λ h. chain (is_fixed fixed.ValidXml t) barreds.ValidXml None b (λ k. record { word = fixed.ValidXml; is = k; apart = refl }) (λ h. absurd cc) h) h

no_empty : (t : Lexeme) → AllOff empty_words t → empty_of t ≡ None
unfolding empty_of
no_empty t (a, (b, _)) = rw (a, b)

pub xml_empty : BeginsNot xml_of (token empty_of (example fixed.Nothing) false)
xml_empty = token-not xml_of empty_of (example fixed.Nothing) false (λ t b h. no_empty t (all_others empty_words t (is_xml t b h)))

-- ---- ON

is_retention : (t : Lexeme) (b : Barred) → retention_of t ≡ Some b → is_fixed fixed.On t ≡ true
unfolding retention_of
is_retention t b h = chain (is_fixed fixed.On t) barreds.On None b (λ k. k) (λ h. absurd cc) h

is_encryption : (t : Lexeme) (b : Barred) → encryption_bars t ≡ Some b → is_fixed fixed.On t ≡ true
unfolding encryption_bars
is_encryption t b h = chain (is_fixed fixed.On t) barreds.On None b (λ k. k) (λ h. absurd cc) h

on_off : (t : Lexeme) → is_fixed fixed.On t ≡ true → fixed_at fixed.Off t ≡ None
on_off t h = fixed_none fixed.Off t (off fixed.On fixed.Off t h refl)

pub retention_off : BeginsNot retention_of (sign fixed.Off)
retention_off = token-not retention_of (fixed_at fixed.Off) (example fixed.Off) tt (λ t b h. on_off t (is_retention t b h))

pub encryption_off : BeginsNot encryption_bars (sign fixed.Off)
encryption_off = token-not encryption_bars (fixed_at fixed.Off) (example fixed.Off) tt (λ t b h. on_off t (is_encryption t b h))

-- ---- routes

transport_text : (value : List ℕ) → bytes_eq value (codes "TRANSPORT") ≡ true → address_by value ≡ None
transport_text value h = ap address_by ((bytes_eq-Decides value (codes "TRANSPORT")).0 h)

transport_by : (k : TokenKind) (value : List ℕ) (b : Barred) → transport_value k value ≡ Some b → address_value k value ≡ None
transport_by tokens.Text value b h = chain (bytes_eq value (codes "TRANSPORT")) barreds.Transport None b (transport_text value) (λ h. absurd cc) h
transport_by _ value b h = absurd cc

transport_address : Excludes transport_of address_of
unfolding transport_of address_of
transport_address t b h = transport_by t.kind t.value b h

pub transport_host : BeginsNot transport_of (token address_of example_address None)
transport_host = token-not transport_of address_of example_address None transport_address

abbrev route_words : List Fixed
route_words = fixed.ServiceName ∷ fixed.BrokerInstance ∷ fixed.Address ∷ []

is_route : (q : RouteOptions) (t : Lexeme) (b : Barred) → route_bars q t ≡ Some b → Other route_words t
unfolding route_bars
is_route q t b h =
    chain (is_fixed fixed.Lifetime t) barreds.Lifetime _ b (λ k. record { word = fixed.Lifetime; is = k; apart = refl })
    (λ h. chain (is_fixed fixed.MirrorAddress t) barreds.MirrorAddress None b (λ k. record { word = fixed.MirrorAddress; is = k; apart = refl }) (λ h. absurd cc) h) h

no_route : (address service instance : Bool) (t : Lexeme) → AllOff route_words t → route_take address service instance t ≡ None
unfolding route_take
no_route address service instance t (a, (b, (c, _))) = rw (a, b, c)

pub route_option : (q : RouteOptions) (o : RouteOption) → BeginsNot (route_bars q) (written route_choices o q)
route_option q o = bind-not (route_bars q) (token (route_choices.take q) (route_choices.example o) o) (route_choices.value q) route_choices.Ends
    (token-not (route_bars q) (route_choices.take q) (route_choices.example o) o
    (λ t b h. no_route (is_none q.address) (is_none q.service) (is_none q.instance) t (all_others route_words t (is_route q t b h))))

-- ---- INTO

is_into : (t : Lexeme) (b : Barred) → into_of t ≡ Some b → is_fixed fixed.Into t ≡ true
unfolding into_of
is_into t b h = chain (is_fixed fixed.Into t) barreds.Into None b (λ k. k) (λ h. absurd cc) h

into_sign : (w : Fixed) → alike fixed.Into w ≡ false → BeginsNot into_of (sign w)
into_sign w apart = token-not into_of (fixed_at w) (example w) tt (λ t b h. fixed_none w t (off fixed.Into w t (is_into t b h) apart))

pub into_filter : (n : ℕ) → BeginsNot into_of (word fixed.Where (filter (sum n)))
into_filter n = also-not into_of (sign fixed.Where) (filter (sum n)) (into_sign fixed.Where refl)

is_other : (t : Lexeme) (b : Barred) → into_of t ≡ Some b → Other first_words t
is_other t b h = record { word = fixed.Into; is = is_into t b h; apart = refl }

pub into_statement : (in_batch : Bool) (n : ℕ) → BeginsNot into_of (any_statement (first_of in_batch n) (rest_of in_batch n))
into_statement in_batch n = statement-not into_of is_other in_batch n

pub into_turn : (in_batch : Bool) (n : ℕ) → BeginsNot into_of (any_turn (inner_first in_batch n) (rest_of in_batch n) (end_tail (sum n)))
into_turn in_batch n = turn-not into_of is_other in_batch n

abbrev NotInto : Fixed → Type 0
NotInto w = BeginsNot into_of (sign w)

pub into_endings : All (λ w. BeginsNot into_of (sign w)) (fixed.Close ∷ fixed.Semicolon ∷ fixed.Else ∷ fixed.Commit ∷ [])
into_endings =
    All-cons NotInto fixed.Close (fixed.Semicolon ∷ fixed.Else ∷ fixed.Commit ∷ []) (into_sign fixed.Close refl)
    (All-cons NotInto fixed.Semicolon (fixed.Else ∷ fixed.Commit ∷ []) (into_sign fixed.Semicolon refl)
    (All-cons NotInto fixed.Else (fixed.Commit ∷ []) (into_sign fixed.Else refl)
    (All-cons NotInto fixed.Commit [] (into_sign fixed.Commit refl) (All-nil NotInto))))
