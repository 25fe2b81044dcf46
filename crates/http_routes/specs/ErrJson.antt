-- A fault as JSON.
use Rattle.std.specs.Prelude.{ℕ, List, [], ◌∷◌, ◌++◌, codes}
use Rattle.json.specs.Print.{quoted}
use Rattle.json.specs.Token.{Token, begin_object, end_object, key, string, null}
use Rattle.http_routes.specs.declared.err_json.ErrJson.{ErrJson, ErrJson', Held-ErrJson-cause, None', Some'}

-- the texts of a fault, outermost first
abbrev mutual
  pub texts_of : ErrJson → List (List ℕ)
  texts_of (ErrJson' description cause) = description ∷ texts_behind cause

  pub texts_behind : Held-ErrJson-cause → List (List ℕ)
  texts_behind None' = []
  texts_behind (Some' p e) = texts_of e

-- the JSON of texts, outermost first: an object that tells the first one, with that of the others as its
-- cause
unfoldable pub err_text : List (List ℕ) → List ℕ
err_text [] = codes "null"
err_text (t ∷ ts) = codes "{\"cause\":" ++
    (err_text ts ++ (codes ",\"description\":" ++ (quoted t ++ codes "}")))

-- the tokens after a cause
abbrev pub end_tokens : List ℕ → List Token
end_tokens t = key (codes "description") ∷ string t ∷ end_object ∷ []

-- the tokens of that JSON
unfoldable pub err_tokens : List (List ℕ) → List Token
err_tokens [] = null ∷ []
err_tokens (t ∷ ts) = begin_object ∷ key (codes "cause") ∷ (err_tokens ts ++ end_tokens t)
