-- The named characters of XHTML 1.0: its three entity sets, each in the order in which it declares them.
use Rattle.std.specs.Prelude.{ℕ, List, [], ◌∷◌, ◌++◌, Option, Some, None, if◌then◌else◌, codes}
use Rattle.std.specs.Str.{bytes_eq}

-- a name and its character
abbrev pub Entity : Type 0
Entity = List ℕ × ℕ

-- Latin-1 characters (xhtml-lat1.ent), U+00A0 to U+00FF
unfoldable pub latin_1 : List Entity
latin_1 =
    (codes "nbsp", 160) ∷ (codes "iexcl", 161) ∷ (codes "cent", 162) ∷ (codes "pound", 163) ∷ (codes "curren", 164) ∷
    (codes "yen", 165) ∷ (codes "brvbar", 166) ∷ (codes "sect", 167) ∷ (codes "uml", 168) ∷ (codes "copy", 169) ∷
    (codes "ordf", 170) ∷ (codes "laquo", 171) ∷ (codes "not", 172) ∷ (codes "shy", 173) ∷ (codes "reg", 174) ∷
    (codes "macr", 175) ∷ (codes "deg", 176) ∷ (codes "plusmn", 177) ∷ (codes "sup2", 178) ∷ (codes "sup3", 179) ∷
    (codes "acute", 180) ∷ (codes "micro", 181) ∷ (codes "para", 182) ∷ (codes "middot", 183) ∷ (codes "cedil", 184) ∷
    (codes "sup1", 185) ∷ (codes "ordm", 186) ∷ (codes "raquo", 187) ∷ (codes "frac14", 188) ∷ (codes "frac12", 189) ∷
    (codes "frac34", 190) ∷ (codes "iquest", 191) ∷ (codes "Agrave", 192) ∷ (codes "Aacute", 193) ∷ (codes "Acirc", 194) ∷
    (codes "Atilde", 195) ∷ (codes "Auml", 196) ∷ (codes "Aring", 197) ∷ (codes "AElig", 198) ∷ (codes "Ccedil", 199) ∷
    (codes "Egrave", 200) ∷ (codes "Eacute", 201) ∷ (codes "Ecirc", 202) ∷ (codes "Euml", 203) ∷ (codes "Igrave", 204) ∷
    (codes "Iacute", 205) ∷ (codes "Icirc", 206) ∷ (codes "Iuml", 207) ∷ (codes "ETH", 208) ∷ (codes "Ntilde", 209) ∷
    (codes "Ograve", 210) ∷ (codes "Oacute", 211) ∷ (codes "Ocirc", 212) ∷ (codes "Otilde", 213) ∷ (codes "Ouml", 214) ∷
    (codes "times", 215) ∷ (codes "Oslash", 216) ∷ (codes "Ugrave", 217) ∷ (codes "Uacute", 218) ∷ (codes "Ucirc", 219) ∷
    (codes "Uuml", 220) ∷ (codes "Yacute", 221) ∷ (codes "THORN", 222) ∷ (codes "szlig", 223) ∷ (codes "agrave", 224) ∷
    (codes "aacute", 225) ∷ (codes "acirc", 226) ∷ (codes "atilde", 227) ∷ (codes "auml", 228) ∷ (codes "aring", 229) ∷
    (codes "aelig", 230) ∷ (codes "ccedil", 231) ∷ (codes "egrave", 232) ∷ (codes "eacute", 233) ∷ (codes "ecirc", 234) ∷
    (codes "euml", 235) ∷ (codes "igrave", 236) ∷ (codes "iacute", 237) ∷ (codes "icirc", 238) ∷ (codes "iuml", 239) ∷
    (codes "eth", 240) ∷ (codes "ntilde", 241) ∷ (codes "ograve", 242) ∷ (codes "oacute", 243) ∷ (codes "ocirc", 244) ∷
    (codes "otilde", 245) ∷ (codes "ouml", 246) ∷ (codes "divide", 247) ∷ (codes "oslash", 248) ∷ (codes "ugrave", 249) ∷
    (codes "uacute", 250) ∷ (codes "ucirc", 251) ∷ (codes "uuml", 252) ∷ (codes "yacute", 253) ∷ (codes "thorn", 254) ∷
    (codes "yuml", 255) ∷ []

-- special characters (xhtml-special.ent)
unfoldable pub special : List Entity
special =
    (codes "quot", 34) ∷ (codes "amp", 38) ∷ (codes "lt", 60) ∷ (codes "gt", 62) ∷ (codes "apos", 39) ∷ (codes "OElig", 338) ∷
    (codes "oelig", 339) ∷ (codes "Scaron", 352) ∷ (codes "scaron", 353) ∷ (codes "Yuml", 376) ∷ (codes "circ", 710) ∷
    (codes "tilde", 732) ∷ (codes "ensp", 8194) ∷ (codes "emsp", 8195) ∷ (codes "thinsp", 8201) ∷ (codes "zwnj", 8204) ∷
    (codes "zwj", 8205) ∷ (codes "lrm", 8206) ∷ (codes "rlm", 8207) ∷ (codes "ndash", 8211) ∷ (codes "mdash", 8212) ∷
    (codes "lsquo", 8216) ∷ (codes "rsquo", 8217) ∷ (codes "sbquo", 8218) ∷ (codes "ldquo", 8220) ∷ (codes "rdquo", 8221) ∷
    (codes "bdquo", 8222) ∷ (codes "dagger", 8224) ∷ (codes "Dagger", 8225) ∷ (codes "permil", 8240) ∷
    (codes "lsaquo", 8249) ∷ (codes "rsaquo", 8250) ∷ (codes "euro", 8364) ∷ []

-- symbols (xhtml-symbol.ent), first Greek letters
unfoldable pub greek : List Entity
greek =
    (codes "Alpha", 913) ∷ (codes "Beta", 914) ∷ (codes "Gamma", 915) ∷ (codes "Delta", 916) ∷ (codes "Epsilon", 917) ∷
    (codes "Zeta", 918) ∷ (codes "Eta", 919) ∷ (codes "Theta", 920) ∷ (codes "Iota", 921) ∷ (codes "Kappa", 922) ∷
    (codes "Lambda", 923) ∷ (codes "Mu", 924) ∷ (codes "Nu", 925) ∷ (codes "Xi", 926) ∷ (codes "Omicron", 927) ∷
    (codes "Pi", 928) ∷ (codes "Rho", 929) ∷ (codes "Sigma", 931) ∷ (codes "Tau", 932) ∷ (codes "Upsilon", 933) ∷
    (codes "Phi", 934) ∷ (codes "Chi", 935) ∷ (codes "Psi", 936) ∷ (codes "Omega", 937) ∷ (codes "alpha", 945) ∷
    (codes "beta", 946) ∷ (codes "gamma", 947) ∷ (codes "delta", 948) ∷ (codes "epsilon", 949) ∷ (codes "zeta", 950) ∷
    (codes "eta", 951) ∷ (codes "theta", 952) ∷ (codes "iota", 953) ∷ (codes "kappa", 954) ∷ (codes "lambda", 955) ∷
    (codes "mu", 956) ∷ (codes "nu", 957) ∷ (codes "xi", 958) ∷ (codes "omicron", 959) ∷ (codes "pi", 960) ∷
    (codes "rho", 961) ∷ (codes "sigmaf", 962) ∷ (codes "sigma", 963) ∷ (codes "tau", 964) ∷ (codes "upsilon", 965) ∷
    (codes "phi", 966) ∷ (codes "chi", 967) ∷ (codes "psi", 968) ∷ (codes "omega", 969) ∷ (codes "thetasym", 977) ∷
    (codes "upsih", 978) ∷ (codes "piv", 982) ∷ []

-- and then the other ones
unfoldable pub other_symbols : List Entity
other_symbols =
    (codes "fnof", 402) ∷ (codes "bull", 8226) ∷ (codes "hellip", 8230) ∷ (codes "prime", 8242) ∷ (codes "Prime", 8243) ∷
    (codes "oline", 8254) ∷ (codes "frasl", 8260) ∷ (codes "image", 8465) ∷ (codes "weierp", 8472) ∷ (codes "real", 8476) ∷
    (codes "trade", 8482) ∷ (codes "alefsym", 8501) ∷ (codes "larr", 8592) ∷ (codes "uarr", 8593) ∷ (codes "rarr", 8594) ∷
    (codes "darr", 8595) ∷ (codes "harr", 8596) ∷ (codes "crarr", 8629) ∷ (codes "lArr", 8656) ∷ (codes "uArr", 8657) ∷
    (codes "rArr", 8658) ∷ (codes "dArr", 8659) ∷ (codes "hArr", 8660) ∷ (codes "forall", 8704) ∷ (codes "part", 8706) ∷
    (codes "exist", 8707) ∷ (codes "empty", 8709) ∷ (codes "nabla", 8711) ∷ (codes "isin", 8712) ∷ (codes "notin", 8713) ∷
    (codes "ni", 8715) ∷ (codes "prod", 8719) ∷ (codes "sum", 8721) ∷ (codes "minus", 8722) ∷ (codes "lowast", 8727) ∷
    (codes "radic", 8730) ∷ (codes "prop", 8733) ∷ (codes "infin", 8734) ∷ (codes "ang", 8736) ∷ (codes "and", 8743) ∷
    (codes "or", 8744) ∷ (codes "cap", 8745) ∷ (codes "cup", 8746) ∷ (codes "int", 8747) ∷ (codes "there4", 8756) ∷
    (codes "sim", 8764) ∷ (codes "cong", 8773) ∷ (codes "asymp", 8776) ∷ (codes "ne", 8800) ∷ (codes "equiv", 8801) ∷
    (codes "le", 8804) ∷ (codes "ge", 8805) ∷ (codes "sub", 8834) ∷ (codes "sup", 8835) ∷ (codes "nsub", 8836) ∷
    (codes "sube", 8838) ∷ (codes "supe", 8839) ∷ (codes "oplus", 8853) ∷ (codes "otimes", 8855) ∷ (codes "perp", 8869) ∷
    (codes "sdot", 8901) ∷ (codes "lceil", 8968) ∷ (codes "rceil", 8969) ∷ (codes "lfloor", 8970) ∷ (codes "rfloor", 8971) ∷
    (codes "lang", 9001) ∷ (codes "rang", 9002) ∷ (codes "loz", 9674) ∷ (codes "spades", 9824) ∷ (codes "clubs", 9827) ∷
    (codes "hearts", 9829) ∷ (codes "diams", 9830) ∷ []

-- all of them
unfoldable pub entities : List Entity
entities = latin_1 ++ special ++ greek ++ other_symbols

-- the character of the first of these entities that has the name
unfoldable pub character_in : List Entity → List ℕ → Option ℕ
character_in [] name = None
character_in (entity ∷ more) name = if bytes_eq entity.0 name then Some entity.1 else character_in more name

-- the character that the name stands for
unfoldable pub named_character : List ℕ → Option ℕ
named_character name = character_in entities name
