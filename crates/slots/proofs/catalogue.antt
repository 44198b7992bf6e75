-- Laws of the code in src/catalogue.rt.

-- Laws of judging a list: a description that is sent, one service, the services in turn, the list, and what stands before it.
pub mod CatalogueLaws
