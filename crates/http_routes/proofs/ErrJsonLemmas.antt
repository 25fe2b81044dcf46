-- The tokens of a fault print as its text.
use Rattle.std.proofs.Common.{◌≡◌, ℕ, true, false, List, [], ◌∷◌, ◌++◌, refl, sym, ap, ◌∙◌}
use Rattle.std.proofs.lemmas.List.{append_assoc, append-nil}
use Rattle.std.specs.Prelude.{codes}
use Rattle.json.specs.Print.{print, print_from, quoted, escape_byte}
use Rattle.json.specs.Token.{Token}
use Rattle.http_routes.specs.ErrJson.{err_text, err_tokens, end_tokens}

-- what stands behind a cause
end_printed : (t : List ℕ) (more : List Token)
    → print_from true (end_tokens t ++ more) ≡ codes ",\"description\":" ++
    (quoted t ++ (codes "}" ++ print_from true more))
unfolding print_from escape_byte
end_printed t more = refl

end_joined : (t rest : List ℕ) → (codes ",\"description\":" ++ (quoted t ++ codes "}")) ++ rest
    ≡ codes ",\"description\":" ++ (quoted t ++ (codes "}" ++ rest))
end_joined t rest = ap (λ x. codes ",\"description\":" ++ x) (append_assoc (quoted t) (codes "}") rest)

printed_behind : (ts : List (List ℕ)) (more : List Token)
    → print_from false (err_tokens ts ++ more) ≡ err_text ts ++ print_from true more
unfolding err_tokens err_text print_from escape_byte
printed_behind [] more = refl
printed_behind (t ∷ ts) more =
    let rest = print_from true more in
    let end = codes ",\"description\":" ++ (quoted t ++ codes "}") in
    ap (λ x. codes "{\"cause\":" ++ x)
    (ap (print_from false) (append_assoc (err_tokens ts) (end_tokens t) more)
    ∙ printed_behind ts (end_tokens t ++ more)
    ∙ ap (λ x. err_text ts ++ x) (end_printed t more ∙ sym (end_joined t rest))
    ∙ sym (append_assoc (err_text ts) end rest))

pub printed : (ts : List (List ℕ)) → print (err_tokens ts) ≡ err_text ts
unfolding print_from
printed ts = ap print (sym (append-nil (err_tokens ts))) ∙ printed_behind ts [] ∙ append-nil (err_text ts)
