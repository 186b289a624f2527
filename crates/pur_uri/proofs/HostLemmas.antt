-- An authority that was written is read as the same host and port.
use Rattle.std.proofs.Common.{◌≡◌, ℕ, suc, ◌+◌, ◌-◌, ◌^◌, ◌<◌, ◌≤◌, Bool, true, false, List, [], ◌∷◌, ◌++◌, length, take, drop, Option, Some, None, refl, sym, ap, subst, ◌∙◌, arith, ⊎_elim, append_assoc, append-nil}
use Rattle.std.specs.Prelude.{◌==◌, ◌&&◌, ◌||◌, not, nat_le, decimal, reverse}
use Rattle.std.specs.List.{list_all, prefix_len, suffix_len}
use Rattle.std.specs.Str.{str_to_ascii_lowercase}
use Rattle.std.specs.Str.Parse.{digits_value}
use Rattle.std.proofs.Math.Seq.{drop-append_seam, take-append_seam}
use Rattle.std.proofs.lemmas.Bool.{cases_Bool, cond-true, cond-false, and_parts, and_from, lt-leb, le-leb}
use Rattle.std.proofs.lemmas.Fmt.{decimal_is_IsNumeral, decimal_nonempty}
use Rattle.std.proofs.lemmas.List.{length-reverse, length-append}
use Rattle.pur_laws.proofs.Ends.{front_len}
use Rattle.pur_laws.proofs.Lists.{all-append, all-reverse, all-weaker}
use Rattle.pur_laws.proofs.Tests.{not_empty}
use Rattle.pur_names.specs.declared.schemes.SchemeName.{SchemeName}
use Rattle.pur_text.specs.Hosts.{is_host, is_digit, is_name_byte, is_ip6_byte, is_bracketed}
use Rattle.pur_uri.specs.Splitting.{is_in_authority, begins_with}
use Rattle.pur_uri.specs.Authorities.{without_user, host_len, host_of, behind_host, is_authority, is_port, port_of, port_value, is_default_port}
use Rattle.pur_uri.specs.Uris.{port_text}
use Rattle.pur_uri.proofs.AsciiLemmas.{HostsArePlain, HostsAreLowered, is_host_byte, bracketed, host_cases, host_bytes}
use Rattle.pur_uri.proofs.CuttingLemmas.{differs, unlike}
use Rattle.pur_uri.proofs.TextLemmas.{decimal_digits, port_small}

-- ---- the bytes of an authority

-- a port as it is kept: small, and not the scheme's own
abbrev pub IsKeptPort : Option SchemeName → Option ℕ → Type 0
IsKeptPort scheme port = (n : ℕ) → port ≡ Some n → (n ≤ 65535) × (is_default_port scheme n ≡ false)

short : (n : ℕ) → n ≤ 65535 → n < 2 ^ 64
short n small = omega arith

digits_pass : (q : ℕ → Bool) → ((b : ℕ) → is_digit b ≡ true → q b ≡ true) → q 0x3A ≡ true → (scheme : Option SchemeName) (port : Option ℕ)
    → IsKeptPort scheme port → list_all q (port_text port) ≡ true
digits_pass q follows colon scheme None kept = refl
digits_pass q follows colon scheme (Some n) kept =
    and_from _ _ colon (all-weaker is_digit q follows (decimal n) (decimal_digits n (short n (kept n refl).0)))

-- an authority has no `@`, `/`, `?` and `#`
module _ (plain : HostsArePlain) (host : List ℕ) (is : is_host host ≡ true) (scheme : Option SchemeName) (port : Option ℕ) (kept : IsKeptPort scheme port) where
  authority_pass : (q : ℕ → Bool) → ((b : ℕ) → is_host_byte b ≡ true → q b ≡ true) → ((b : ℕ) → is_digit b ≡ true → q b ≡ true) → q 0x3A ≡ true
      → list_all q (host ++ port_text port) ≡ true
  authority_pass q of_host of_digit colon =
      all-append q host (port_text port) (all-weaker is_host_byte q of_host host (host_bytes plain host is)) (digits_pass q of_digit colon scheme port kept)

  pub authority_inside : list_all is_in_authority (host ++ port_text port) ≡ true
  authority_inside = authority_pass is_in_authority
      (λ b in_host. and_from _ _ (unlike is_host_byte 0x2F b refl in_host) (and_from _ _ (unlike is_host_byte 0x3F b refl in_host) (unlike is_host_byte 0x23 b refl in_host)))
      (λ b digit. and_from _ _ (unlike is_digit 0x2F b refl digit) (and_from _ _ (unlike is_digit 0x3F b refl digit) (unlike is_digit 0x23 b refl digit)))
      refl

  authority_bare : list_all (λ b. not (b == 0x40)) (host ++ port_text port) ≡ true
  authority_bare = authority_pass (λ b. not (b == 0x40)) (λ b in_host. unlike is_host_byte 0x40 b refl in_host) (λ b digit. unlike is_digit 0x40 b refl digit) refl

-- ---- no user information

whole_len : (q : ℕ → Bool) (xs : List ℕ) → list_all q xs ≡ true → prefix_len q xs ≡ length xs
whole_len q xs all = ap (prefix_len q) (sym (append-nil xs)) ∙ front_len q xs [] all refl

no_user : (text : List ℕ) → list_all (λ b. not (b == 0x40)) text ≡ true → without_user text ≡ text
no_user text all =
    let len : suffix_len (λ b. not (b == 0x40)) text ≡ length text =
    whole_len (λ b. not (b == 0x40)) (reverse text) (all-reverse (λ b. not (b == 0x40)) text all) ∙ length-reverse text in
    let none : length text - length text ≡ 0 = omega arith in
    ap (λ n. drop (length text - n) text) len ∙ ap (λ n. drop n text) none

-- ---- how far a host reaches

port_stop : (port : Option ℕ) → prefix_len (λ b. not (b == 0x3A)) (port_text port) ≡ 0
port_stop None = refl
port_stop (Some n) = refl

no_bracket : (host : List ℕ) (port : Option ℕ) → list_all is_name_byte host ≡ true → begins_with 0x5B (host ++ port_text port) ≡ false
no_bracket [] None all = refl
no_bracket [] (Some n) all = refl
no_bracket (b ∷ host) port all = differs is_name_byte 0x5B b refl (and_parts _ _ all).0

name_len : (host : List ℕ) (port : Option ℕ) → list_all is_name_byte host ≡ true → host_len (host ++ port_text port) ≡ length host
unfolding host_len
name_len host port all = cond-false _ _ _ (no_bracket host port all)
    ∙ front_len (λ b. not (b == 0x3A)) host (port_text port)
    (all-weaker is_name_byte (λ b. not (b == 0x3A)) (λ b is. unlike is_name_byte 0x3A b refl is) host all) (port_stop port)

literal_len : (host behind : List ℕ) → is_bracketed host ≡ true → host_len (host ++ behind) ≡ length host
unfolding host_len
literal_len host behind is =
    let shape = bracketed host is in
    let inner = shape.0 in
    let whole : host ++ behind ≡ (0x5B ∷ inner) ++ (0x5D ∷ behind) = ap (λ h. h ++ behind) shape.1.0 ∙ ap (λ t. 0x5B ∷ t) (append_assoc inner (0x5D ∷ []) behind) in
    let first : begins_with 0x5B (host ++ behind) ≡ true = ap (begins_with 0x5B) whole in
    let open_ : list_all (λ b. not (b == 0x5D)) (0x5B ∷ inner) ≡ true =
    and_from _ _ refl (all-weaker is_ip6_byte (λ b. not (b == 0x5D)) (λ b in_address. unlike is_ip6_byte 0x5D b refl in_address) inner shape.1.1) in
    let reach : prefix_len (λ b. not (b == 0x5D)) (host ++ behind) ≡ length (0x5B ∷ inner) =
    ap (prefix_len (λ b. not (b == 0x5D))) whole ∙ front_len (λ b. not (b == 0x5D)) (0x5B ∷ inner) (0x5D ∷ behind) open_ refl in
    let len : length host ≡ suc (length inner + 1) = ap length shape.1.0 ∙ ap suc (length-append inner (0x5D ∷ [])) in
    cond-true _ _ _ first ∙ ap (λ n. n + 1) reach ∙ omega (arith, len)

reach_again : HostsArePlain → (host : List ℕ) (port : Option ℕ) → is_host host ≡ true → host_len (host ++ port_text port) ≡ length host
reach_again plain host port is = ⊎_elim
    (λ (name : list_all is_name_byte host ≡ true). name_len host port name)
    (λ (literal : is_bracketed host ≡ true). literal_len host (port_text port) literal)
    (host_cases plain host is)

-- ---- ports

port_again : (scheme : Option SchemeName) (port : Option ℕ) → IsKeptPort scheme port
    → (is_port (port_text port) ≡ true) × (port_of scheme (port_text port) ≡ port)
unfolding is_port port_of port_value
port_again scheme None kept = (refl, refl)
port_again scheme (Some n) kept =
    let few = (kept n refl).0 in
    let value : digits_value 10 (decimal n) ≡ n = (decimal_is_IsNumeral n (short n few)).1 in
    let some = decimal_nonempty n (short n few) in
    let small : nat_le (digits_value 10 (decimal n)) 65535 ≡ true = ap (λ m. nat_le m 65535) value ∙ le-leb n 65535 few in
    let digits = decimal_digits n (short n few) in
    let long : nat_le (length (port_text (Some n))) 1 ≡ false = lt-leb (length (port_text (Some n))) 1 (omega (arith, some)) in
    let other : is_default_port scheme (digits_value 10 (decimal n)) ≡ false = ap (is_default_port scheme) value ∙ (kept n refl).1 in (
      ap (λ t. t || (list_all is_digit (decimal n) && nat_le (digits_value 10 (decimal n)) 65535)) (not_empty 0x3A (decimal n)) ∙ and_from _ _ digits small,
      cond-false _ _ _ (ap (λ t. t || is_default_port scheme (digits_value 10 (decimal n))) long ∙ other) ∙ ap Some value,
    )

neither : (a b : Bool) → (a || b) ≡ false → b ≡ false
neither true b none = absurd (cc)
neither false b none = none

other_port : (scheme : Option SchemeName) (text : List ℕ) (n : ℕ) → port_of scheme text ≡ Some n → is_default_port scheme n ≡ false
unfolding port_of
other_port scheme text n e = ⊎_elim
    (λ (own : (nat_le (length text) 1 || is_default_port scheme (port_value text)) ≡ true).
    let none : port_of scheme text ≡ None = cond-true _ _ _ own in
    absurd (cc))
    (λ (there : (nat_le (length text) 1 || is_default_port scheme (port_value text)) ≡ false).
    let some : port_of scheme text ≡ Some (port_value text) = cond-false _ _ _ there in
    let same : port_value text ≡ n = cc in
    subst (λ m. is_default_port scheme m ≡ false) same (neither (nat_le (length text) 1) (is_default_port scheme (port_value text)) there))
    (cases_Bool (nat_le (length text) 1 || is_default_port scheme (port_value text)))

pub port_kept : (scheme : Option SchemeName) (text : List ℕ) → is_port text ≡ true → IsKeptPort scheme (port_of scheme text)
port_kept scheme text is = λ n e. (port_small scheme text n is e, other_port scheme text n e)

-- ---- an authority

-- the host and the port of what they are written as
module _ (plain : HostsArePlain) (lowered : HostsAreLowered) (host : List ℕ) (is : is_host host ≡ true) (scheme : Option SchemeName) (port : Option ℕ) (kept : IsKeptPort scheme port) where
  bare : without_user (host ++ port_text port) ≡ host ++ port_text port
  bare = no_user (host ++ port_text port) (authority_bare plain host is scheme port kept)

  pub host_again : host_of (host ++ port_text port) ≡ host
  unfolding host_of
  host_again =
      ap (λ t. str_to_ascii_lowercase (take (host_len t) t)) bare
      ∙ ap (λ n. str_to_ascii_lowercase (take n (host ++ port_text port))) (reach_again plain host port is)
      ∙ ap str_to_ascii_lowercase (take-append_seam host (port_text port)) ∙ lowered host is

  behind_again : behind_host (host ++ port_text port) ≡ port_text port
  behind_again =
      ap (λ t. drop (host_len t) t) bare ∙ ap (λ n. drop n (host ++ port_text port)) (reach_again plain host port is)
      ∙ drop-append_seam host (port_text port)

  pub authority_again : is_authority (host ++ port_text port) ≡ true
  unfolding is_authority
  authority_again = and_from _ _ (ap is_host host_again ∙ is) (ap is_port behind_again ∙ (port_again scheme port kept).0)

  pub own_port_again : port_of scheme (behind_host (host ++ port_text port)) ≡ port
  own_port_again = ap (port_of scheme) behind_again ∙ (port_again scheme port kept).1
