-- Worked examples of nodes whose URIs are absolute.
use Rattle.std.specs.Prelude.{ℕ, ◌≡◌, Bool, true, false, List, [], ◌∷◌, Option, Some, None, codes}
use Rattle.pur_names.specs.declared.elements.Element.{Element}
use Rattle.pur_names.specs.declared.elements.Element.TheVariants.{A, Img, P}
use Rattle.pur_names.specs.declared.schemes.SchemeName.{SchemeName}
use Rattle.pur_names.specs.declared.schemes.SchemeName.TheVariants.{Http, Https}
use Rattle.pur_attrlist.specs.Attributes.{Attribute}
use Rattle.pur_tree.specs.Nodes.{Nodes, no_nodes, text_first, elem_first, plain_elem}
use Rattle.pur_uri.specs.Uris.{PlainUri}
use Rattle.pur_absolute.specs.Absolute.{with_absolute_uris}

-- a scheme and a host with the path `/`
abbrev at_root : SchemeName → List ℕ → PlainUri
at_root scheme host = record { scheme = Some scheme; host = Some host; port = None; path = codes "/"; query = None; fragment = None }

-- every URI, and those of `https` alone
abbrev any_uri : PlainUri → Bool
any_uri uri = true

abbrev is_https : Option SchemeName → Bool
is_https (Some Https) = true
is_https scheme = false

abbrev safe_uri : PlainUri → Bool
safe_uri uri = is_https uri.scheme

-- an element with one attribute round a text, and one round nothing
abbrev round : Element → Attribute → List ℕ → Nodes
round name attr text = elem_first (plain_elem name (attr ∷ [])) (text_first text no_nodes) no_nodes

abbrev picture : List ℕ → Nodes → Nodes
picture source rest = elem_first (plain_elem Img ((codes "src", source) ∷ (codes "alt", []) ∷ [])) no_nodes rest

-- at `http://a/`, `<a href="//h:80/x/../y">z</a>` gives `<a href="http://h/y">z</a>`
abbrev pub LinksGetTheScheme : Type 0
LinksGetTheScheme = with_absolute_uris any_uri (at_root Http (codes "a")) (round A (codes "href", codes "//h:80/x/../y") (codes "z"))
    ≡ round A (codes "href", codes "http://h/y") (codes "z")

-- `<p style="background-image:url("x");">z</p>` gets `http://a/x`
abbrev pub UrlsGetTheHost : Type 0
UrlsGetTheHost =
    with_absolute_uris any_uri (at_root Http (codes "a")) (round P (codes "style", codes "background-image:url(\"x\");") (codes "z"))
    ≡ round P (codes "style", codes "background-image:url(\"http://a/x\");") (codes "z")

-- `<p style="background-image:url("*");">z</p>` gives `<p>z</p>`: `http://a/*` would begin a comment
abbrev pub CommentsAreDropped : Type 0
CommentsAreDropped =
    with_absolute_uris any_uri (at_root Http (codes "a")) (round P (codes "style", codes "background-image:url(\"*\");") (codes "z"))
    ≡ elem_first (plain_elem P []) (text_first (codes "z") no_nodes) no_nodes

-- at `https://s/`, where `https` alone is allowed, `<img src="http://h/x" alt="" /><img src="y" alt="" />` gives
-- `<img src="https://s/y" alt="" />`
abbrev pub PicturesGoWithTheirSource : Type 0
PicturesGoWithTheirSource =
    with_absolute_uris safe_uri (at_root Https (codes "s")) (picture (codes "http://h/x") (picture (codes "y") no_nodes))
    ≡ picture (codes "https://s/y") no_nodes

-- there, `<a href="http://h/">z</a>` gives `<a>z</a>`
abbrev pub LinksLoseTheirTarget : Type 0
LinksLoseTheirTarget = with_absolute_uris safe_uri (at_root Https (codes "s")) (round A (codes "href", codes "http://h/") (codes "z"))
    ≡ elem_first (plain_elem A []) (text_first (codes "z") no_nodes) no_nodes

-- and `1<img src="http://h/x" alt="" />2` gives `12`
abbrev pub TextsAreJoined : Type 0
TextsAreJoined =
    with_absolute_uris safe_uri (at_root Https (codes "s")) (text_first (codes "1") (picture (codes "http://h/x") (text_first (codes "2") no_nodes)))
    ≡ text_first (codes "12") no_nodes
