-- Two tokens are equal where their marks are.
use Rattle.std.proofs.Common.{◌≡◌, refl, ap}
use Rattle.std.specs.Bool.{Decides}
use Rattle.std.proofs.lemmas.Bool.Decides.{Decides-int_eq}
use Rattle.std.proofs.lemmas.Slice.Eq.{bytes_eq-Decides}
use Rattle.plan_text.specs.declared.token.Token.{Token}
use Rattle.plan_text.specs.declared.token.Token.TheVariants.{Open, Close, Word, Number}
use Rattle.plan_text.specs.contracts.token.TokenPartialEq.TheImpl.{ghosts}
use Rattle.plan_text.specs.Tokens.{mark_of, word, number}

pub same_mark_told : (t u : Token) → Decides (ghosts.eq t u) (mark_of t ≡ mark_of u)
same_mark_told Open Open = (λ e. refl, λ e. refl)
same_mark_told Open Close = (λ e. cc, λ e. cc)
same_mark_told Open (Word w) = (λ e. cc, λ e. cc)
same_mark_told Open (Number z) = (λ e. cc, λ e. cc)
same_mark_told Close Open = (λ e. cc, λ e. cc)
same_mark_told Close Close = (λ e. refl, λ e. refl)
same_mark_told Close (Word w) = (λ e. cc, λ e. cc)
same_mark_told Close (Number z) = (λ e. cc, λ e. cc)
same_mark_told (Word v) Open = (λ e. cc, λ e. cc)
same_mark_told (Word v) Close = (λ e. cc, λ e. cc)
same_mark_told (Word v) (Word w) = (λ e. ap word ((bytes_eq-Decides v.now w.now).0 e), λ e. (bytes_eq-Decides v.now w.now).1 (cc))
same_mark_told (Word v) (Number z) = (λ e. cc, λ e. cc)
same_mark_told (Number y) Open = (λ e. cc, λ e. cc)
same_mark_told (Number y) Close = (λ e. cc, λ e. cc)
same_mark_told (Number y) (Word w) = (λ e. cc, λ e. cc)
same_mark_told (Number y) (Number z) = (λ e. ap number ((Decides-int_eq y z).0 e), λ e. (Decides-int_eq y z).1 (cc))
